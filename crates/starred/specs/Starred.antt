-- The starred cases of the scope as one list, and the one proof that settles them: the checker computes each book by add and each take by
-- its definition, on bytes.
use Rattle.std.specs.Prelude.{ℕ, suc, ◌+◌, ◌-◌, ◌*◌, ◌≡◌, refl, Bool, true, ◌&&◌, List, [], ◌∷◌, ◌++◌, length, replicate, eqb}
use Rattle.units.specs.Lists.{all, flat_map, same_numbers}
use Rattle.sharing.specs.Round.{goes_round, round}
use Rattle.sharing.specs.Lots.{lot_sharing}
use Rattle.sharing.specs.Setter.{beside_setter, setter_sharing}
use Rattle.orders.specs.declared.order.Order.{Order}
use Rattle.record.specs.declared.execution.Execution.{Execution}
use Rattle.record.specs.Codec.{encode, decode}
use Rattle.orders.specs.Order.{minimum_of, size_of, with_interest, settled}
use Rattle.record.specs.Record.{numbers_of, order_of, numbers_sound, new_tells}
use Rattle.record.specs.Execution.{execution_bytes, encode_execution}
use Rattle.book.specs.Sound.{record_bytes, sound, orders_of, book_of}
use Rattle.book.specs.Refusal.{Changed}
use Rattle.entry.specs.declared.admission.AddRequest.{AddRequest}
use Rattle.entry.specs.Add.{requested, sets_price, added, add_call}
use Rattle.matching.specs.Levels.{price_levels}
use Rattle.matching.specs.Paragraph.{part_of}
use Rattle.matching.specs.Take.{allocation_at, allocations_at, allocations_over, allocations, executions_of, losses_of, outcome}
use Rattle.matching.specs.TakeCall.{outcome_of, written, take_call}

-- the price of every order, unless said
ten : ℕ
ten = 100000

-- a resting sell: displayed (at a price of its own, or not), non-displayed, or minimum quantity with its minimum
data Resting : Type 0 where
  D H : ℕ → Resting
  D-at : ℕ → ℕ → Resting
  M : ℕ → ℕ → Resting

sell : ℕ → ℕ → ℕ → ℕ → ℕ → AddRequest
sell kind number price size minimum = record {
  side = 2;
  kind = kind;
  number = number;
  price = price;
  size = size;
  minimum = minimum;
  hidden = 0;
  refresh = 0;
  security = 0;
}

request : ℕ → Resting → AddRequest
request n (D size) = sell 1 n ten size 0
request n (D-at price size) = sell 1 n price size 0
request n (H size) = sell 2 n ten size 0
request n (M size minimum) = sell 3 n ten size minimum

-- an order of the book afterwards: number, size, minimum
rest : ℕ → ℕ → ℕ → List ℕ
rest n size minimum = n ∷ size ∷ minimum ∷ []

-- An incoming buy at 100000 of so many shares, and what must come of it: every order's shares, those left, and the book afterwards.
record Take : Type 0 where
  algorithm : ℕ
  buy : ℕ
  executions : List Execution
  left : ℕ
  after : List (List ℕ)

take : ℕ → ℕ → List Execution → ℕ → List (List ℕ) → Take
take algorithm buy es left after = record { algorithm = algorithm; buy = buy; executions = es; left = left; after = after }

-- a book, and takes of it, each from the book as it was made
record Case : Type 0 where
  resting : List Resting
  takes : List Take

case : List Resting → List Take → Case
case rs ts = record { resting = rs; takes = ts }

-- the book made by add, numbers running from n; the refusals are added up, so that 0 says that each was accepted
made : ℕ → List Resting → Changed → Changed
made n [] b = b
made n (r ∷ rs) b =
    let c = add_call (request n r) b.book in
    made (suc n) rs (record { refusal = b.refusal + c.refusal; book = c.book })

-- four resting orders and four executions at most, and one record and one execution more
empty : List ℕ
empty = replicate (5 * record_bytes) 0

-- a buffer of bytes 7, so that those behind the executions are seen to stay
buffer : ℕ → List ℕ
buffer n = replicate (execution_bytes * n) 7

summary : Order → List ℕ
summary o = o.number ∷ size_of o ∷ minimum_of o.kind ∷ []

take_passes : List ℕ → Take → Bool
take_passes s t =
    let a = take_call (record { side = 1; limit = ten; size = t.buy; algorithm = t.algorithm; security = 0 }) s (buffer 5) in
    let count = length t.executions in
    eqb a.taken.refusal 0
    && eqb a.taken.count count
    && eqb a.taken.left t.left
    && same_numbers a.executions (flat_map encode_execution t.executions ++ buffer (5 - count))
    && same_numbers (flat_map summary (orders_of a.book)) (flat_map (λ r. r) t.after)

passes : Case → Bool
passes c =
    let b = made 1 c.resting (record { refusal = 0; book = empty }) in
    eqb b.refusal 0 && all (take_passes b.book) c.takes

-- an execution at 100000: the paragraph that it names, order number, shares
at : ℕ → ℕ → ℕ → Execution
at paragraph n shares = record { number = n; price = record { 0 = ten }; shares = record { 0 = shares }; paragraph = paragraph }

starred : List Case
starred =
    -- a and b, the rule's examples 1 and 2
    case (D 600 ∷ D 400 ∷ D 300 ∷ [])
    (take 2 1200 (at 2 1 600 ∷ at 2 2 400 ∷ at 2 3 200 ∷ []) 0 (rest 3 100 0 ∷ []) ∷
    take 2 80 (at 2 1 80 ∷ []) 0 (rest 1 520 0 ∷ rest 2 400 0 ∷ rest 3 300 0 ∷ []) ∷ []) ∷
    -- c and e, examples 3 and 5
    case (D-at 100100 1000 ∷ D 1000 ∷ D 3000 ∷ D 1000 ∷ [])
    (take 3 1000 (at 2 2 400 ∷ at 2 3 500 ∷ at 2 4 100 ∷ []) 0 (rest 1 1000 0 ∷ rest 2 600 0 ∷ rest 3 2500 0 ∷ rest 4 900 0 ∷ []) ∷
    take 3 80 (at 2 2 32 ∷ at 2 3 48 ∷ []) 0 (rest 1 1000 0 ∷ rest 2 968 0 ∷ rest 3 2952 0 ∷ rest 4 1000 0 ∷ []) ∷ []) ∷
    -- d, example 4
    case (D-at 100100 1000 ∷ D 3000 ∷ D 1000 ∷ D 1000 ∷ [])
    (take 3 1000 (at 2 2 600 ∷ at 2 3 200 ∷ at 2 4 200 ∷ []) 0 (rest 1 1000 0 ∷ rest 2 2400 0 ∷ rest 3 800 0 ∷ rest 4 800 0 ∷ []) ∷ []) ∷
    -- f
    case (D 150 ∷ D 150 ∷ []) (take 2 290 (at 2 1 150 ∷ at 2 2 140 ∷ []) 0 (rest 2 10 0 ∷ []) ∷ []) ∷
    -- g, and what plain sharing gives
    case (D 300 ∷ D 250 ∷ D 250 ∷ D 200 ∷ [])
    (take 3 500 (at 2 1 200 ∷ at 2 2 200 ∷ at 2 3 100 ∷ []) 0 (rest 1 100 0 ∷ rest 2 50 0 ∷ rest 3 150 0 ∷ rest 4 200 0 ∷ []) ∷
    take 2 500 (at 2 1 200 ∷ at 2 2 100 ∷ at 2 3 100 ∷ at 2 4 100 ∷ []) 0 (rest 1 100 0 ∷ rest 2 150 0 ∷ rest 3 150 0 ∷ rest 4 100 0 ∷ []) ∷ []) ∷
    -- h
    case (D 100 ∷ D 900 ∷ []) (take 3 500 (at 2 1 100 ∷ at 2 2 400 ∷ []) 0 (rest 2 500 0 ∷ []) ∷ []) ∷
    -- i
    case (D 99 ∷ D 100 ∷ [])
    (take 2 100 (at 2 2 100 ∷ []) 0 (rest 1 99 0 ∷ []) ∷
    take 1 100 (at 2 1 99 ∷ at 2 2 1 ∷ []) 0 (rest 2 99 0 ∷ []) ∷ []) ∷
    -- j
    case (M 500 400 ∷ M 400 300 ∷ [])
    (take 2 350 (at 5 2 350 ∷ []) 0 (rest 1 500 400 ∷ rest 2 50 50 ∷ []) ∷
    take 2 299 [] 299 (rest 1 500 400 ∷ rest 2 400 300 ∷ []) ∷ []) ∷
    -- k
    case (H 50 ∷ M 200 200 ∷ [])
    (take 2 220 (at 5 2 200 ∷ at 6 1 20 ∷ []) 0 (rest 1 30 0 ∷ []) ∷
    take 1 220 (at 3 1 50 ∷ []) 170 (rest 2 200 200 ∷ []) ∷ []) ∷
    -- l
    case (M 300 300 ∷ H 100 ∷ []) (take 1 150 (at 3 2 100 ∷ []) 50 (rest 1 300 300 ∷ []) ∷ []) ∷ []

starred_pass : all passes starred ≡ true
unfolding starred case take rest at passes take_passes summary buffer empty made request sell ten take_call written outcome_of outcome losses_of executions_of allocations allocations_over allocations_at allocation_at price_levels part_of setter_sharing beside_setter lot_sharing round goes_round add_call added sets_price requested sound orders_of book_of encode decode numbers_of order_of numbers_sound new_tells with_interest settled
starred_pass = refl
