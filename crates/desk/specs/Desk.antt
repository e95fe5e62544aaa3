-- A desk, what it answers to a command of a fillsheet, and the desk afterwards.
use Rattle.std.specs.Prelude.{ℕ, cond, List, Option, Some, None, Result, Ok, Err}
use Rattle.book.specs.Refusal.{is_accepted}
use Rattle.entry.specs.declared.admission.AddRequest.{AddRequest}
use Rattle.entry.specs.Add.{add_call}
use Rattle.entry.specs.Reduce.{reduce_call}
use Rattle.matching.specs.declared.Filled.{Filled}
use Rattle.matching.specs.declared.TakeRequest.{TakeRequest}
use Rattle.matching.specs.TakeCall.{take_call}
use Rattle.script.specs.declared.command.Command.{Command}
use Rattle.script.specs.declared.command.Command.TheVariants.{Choose, Add, Reduce, Take}

-- a book, a buffer for executions, and the algorithm of the takes to come
pub record Desk : Type 0 where
  pub book : List ℕ
  pub executions : List ℕ
  pub algorithm : ℕ

abbrev pub desk_of : List ℕ → List ℕ → ℕ → Desk
desk_of book executions algorithm = record { book = book; executions = executions; algorithm = algorithm }

-- what a command answers: a refusal's number, or what an accepted take lists, and else nothing
abbrev pub Answer : Type 0
Answer = Result (Option Filled) ℕ

pub record Performed : Type 0 where
  pub answer : Answer
  pub desk : Desk

-- a refused command answers with its refusal alone
abbrev pub refused_or : ℕ → Option Filled → Answer
refused_or refusal listed = cond (is_accepted refusal) (Ok listed) (Err refusal)

-- the answer of a call that changes the book, and the desk with the book that it leaves
abbrev pub with_book : ℕ → List ℕ → Desk → Performed
with_book refusal book d = record {
  answer = refused_or refusal None;
  desk = desk_of book d.executions d.algorithm;
}

-- An algorithm is set; an order is added, which hides nothing, reduced or taken from, all in security 0; a line that is no command is
-- refused 1. Only an accepted take lists.
unfoldable pub performed : Option Command → Desk → Performed
performed None d = record { answer = Err 1; desk = d }
performed (Some (Choose n)) d = record { answer = Ok None; desk = desk_of d.book d.executions n }
performed (Some (Add side kind number price size minimum)) d =
    let q : AddRequest = record { side = side; kind = kind; number = number; price = price; size = size; minimum = minimum; hidden = 0; refresh = 0; security = 0 } in
    let c = add_call q d.book in
    with_book c.refusal c.book d
performed (Some (Reduce number shares)) d = let c = reduce_call 0 number shares d.book in with_book c.refusal c.book d
performed (Some (Take side limit size)) d =
    let q : TakeRequest = record { side = side; limit = limit; size = size; algorithm = d.algorithm; security = 0 } in
    let c = take_call q d.book d.executions in
    let t = c.taken in
    record {
      answer = refused_or t.refusal (Some (record { count = t.count; left = record { 0 = t.left } }));
      desk = desk_of c.book c.executions d.algorithm;
    }
