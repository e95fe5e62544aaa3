-- Records turned one by one into the front of a target.
use Prim.Native.Nat.{ℕ, ◌+◌, ◌-◌, ◌*◌, ◌≤◌}
use mathlib.Core.Path.{◌≡◌, refl, sym, ap, ap₂, ◌∙◌}
use mathlib.Core.List.{List, [], ◌∷◌, ◌++◌, append-nil, append_assoc}
use native.Mathlib.Omega.{arith}
use lib.ListN.{length, take, drop, replicate, length-append, length-replicate}
use lib.Seq.{take_at, length-take-le, drop-length}
use Rattle.units.specs.Lists.{flat_map}
use Rattle.record.specs.declared.form.RecordForm.{RecordForm}
use Rattle.record.specs.Codec.{replaced}
use Rattle.record.specs.Record.{order_bytes}
use Rattle.record.specs.Names.{form_of}
use Rattle.record.proofs.Pasting.{length_replaced}
use Rattle.record.proofs.Filling.{Filled, filled_none, filled_more, filled_done}
use Rattle.book.specs.Sound.{first_records}
use Rattle.book.proofs.Soundness.{length_records}
use Rattle.conversion.specs.Conversion.{turned, turned_book}
use Rattle.conversion.proofs.Turned.{length_turned, length_all_turned}

-- Target t was t₀: records have been turned into its front, up to a byte, and of all of them these are still to come.
pub record Going (f : RecordForm) (t₀ t : List ℕ) (write : ℕ) (rest all : List (List ℕ)) : Type 0 where
  pub filled : Filled (take write t) write t₀ t
  pub whole : take write t ++ flat_map (turned (form_of f)) rest ≡ flat_map (turned (form_of f)) all

module _ (f : RecordForm) (t₀ : List ℕ) where
  -- at first none has
  pub going_none : (all : List (List ℕ)) → Going f t₀ t₀ 0 all all
  going_none all = record { filled = filled_none t₀; whole = refl }

  module _ {t : List ℕ} {write : ℕ} {rest all : List (List ℕ)} (g : Going f t₀ t write rest all) (h : write ≤ length t₀) where
    -- the front has so many bytes
    pub front_long : length (take write t) ≡ write
    front_long = length-take-le write t (omega (arith, g.filled.long))

    -- the next record is turned
    pub going_more : {r : List ℕ} {rest' : List (List ℕ)} → rest ≡ r ∷ rest' → 32 ≤ length r → write + order_bytes (form_of f) ≤ length t₀
        → {t' : List ℕ} → t' ≡ replaced write (turned (form_of f) r) t → Going f t₀ t' (write + order_bytes (form_of f)) rest' all
    going_more {r} {rest'} e l m {t'} q =
        let x = turned (form_of f) r in
        let w = length_turned f r l in
        let n = front_long in
        let k = write + order_bytes (form_of f) in
        let fill : Filled (take write t ++ x) k t₀ t' = rw q (filled_more g.filled x k (omega arith) (omega arith) m (sym n)) in
        let c : length (take write t ++ x) ≡ k = length-append (take write t) x ∙ omega arith in
        let b : take k t' ≡ take write t ++ x = ap (λ i. take i t') (sym c) ∙ fill.begins in
        record {
          filled = rw b fill;
          whole = rw b (append_assoc (take write t) x (flat_map (turned (form_of f)) rest') ∙ ap (λ rs. take write t ++ flat_map (turned (form_of f)) rs) (sym e) ∙ g.whole);
        }

    -- all have been turned
    module _ (e : rest ≡ []) where
      all_there : take write t ≡ flat_map (turned (form_of f)) all
      all_there = sym (append-nil (take write t)) ∙ ap (λ rs. take write t ++ flat_map (turned (form_of f)) rs) (sym e) ∙ g.whole

      pub going_done : t ≡ replaced 0 (flat_map (turned (form_of f)) all) t₀
      going_done =
          let n : write ≡ 0 + length (flat_map (turned (form_of f)) all) = omega (arith, front_long, ap length all_there) in
          filled_done g.filled front_long ∙ ap₂ (λ x k. x ++ drop k t₀) all_there n

-- zeros up to the end of a target behind what was put into its front
pub zeros_behind : (x t : List ℕ) (end rest : ℕ) → length x ≡ end → end + rest ≡ length t
    → replaced end (replicate rest 0) (replaced 0 x t) ≡ x ++ replicate rest 0
zeros_behind x t end rest e l =
    let y = replaced 0 x t in
    let z = length-replicate {A = ℕ} rest 0 in
    let m : length y ≡ length t = length_replaced 0 x t (omega arith) in
    let n : end + length (replicate {A = ℕ} rest 0) ≡ length y = omega arith in
    ap₂ (λ a b. a ++ (replicate rest 0 ++ b)) (take_at x (drop (0 + length x) t) end e) (ap (λ k. drop k y) n ∙ drop-length y)
    ∙ ap (λ a. x ++ a) (append-nil (replicate rest 0))

-- the target is the book of the records that were turned into its front, with zeros up to its end
pub filled_book : (from to : RecordForm) (n : ℕ) (s t : List ℕ) → order_bytes (form_of from) * n ≤ length s → order_bytes (form_of to) * n ≤ length t
    → {end : ℕ} → end ≡ order_bytes (form_of to) * n → {x y : List ℕ}
    → y ≡ replaced 0 (flat_map (turned (form_of to)) (first_records (form_of from) n s)) t → x ≡ replaced end (replicate (length y - end) 0) y
    → x ≡ turned_book (form_of to) (length t) (first_records (form_of from) n s)
filled_book from to n s t h k {end} e {x} {y} q p =
    let rs = first_records (form_of from) n s in
    let front = flat_map (turned (form_of to)) rs in
    let l : length front ≡ end = length_all_turned from to n s h ∙ sym e in
    let m : length y ≡ length t = ap length q ∙ length_replaced 0 front t (omega arith) in
    let j : length y - end ≡ length t - order_bytes (form_of to) * length rs
    = ap₂ ◌-◌ m (e ∙ ap (λ i. order_bytes (form_of to) * i) (sym (length_records (form_of from) n s))) in
    p
    ∙ ap (λ b. replaced end (replicate (length y - end) 0) b) q
    ∙ zeros_behind front t end (length y - end) l (omega arith)
    ∙ ap (λ i. front ++ replicate i 0) j
