-- Parts that are nothing, wherever they stand, change nothing for the others: the parts kept get the same shares, and those left out 0.
use Prim.Native.Nat.{ℕ, ◌+◌, ◌-◌}
use mathlib.Core.Path.{◌≡◌, refl, sym, ap, ◌∙◌}
use mathlib.Core.Bool.{Bool, false}
use mathlib.Core.List.{List, map, Memᴰ}
use native.Mathlib.Omega.{arith}
use Rattle.units.specs.Lists.{or_zero, total}
use Rattle.units.proofs.Totals.{total_same, map_same}
use Rattle.sharing.specs.Rank.{Part, part_size, larger, ranked, Rising}
use Rattle.sharing.specs.Round.{goes_round, round}
use Rattle.sharing.specs.Lots.{first_step, second_step, lot_sharing}
use Rattle.sharing.specs.Setter.{guarantee, is_setter, of_setter, without_setter, setter_sharing}
use Rattle.sharing.proofs.Ranks.{Weak, by_size, mem_ranked, differ_ranked}
use Rattle.sharing.proofs.Turns.{taking_le, turn}
use Rattle.sharing.proofs.LotSharing.{lot_share, lots_map, lots_zero, first_zero}
use Rattle.sharing.proofs.SetterAndOthers.{of_setter_lem, others_rising}
use Rattle.sharing.proofs.SetterSharing.{guaranteed, keeps_guarantee, setter_share, setter_map, setters_zero}
use Rattle.sharing.proofs.Thin.{Thin, thin_map, thin_total, thin_any, goes_thin}

-- a part that is nothing
abbrev pub Nothing : Part → Type 0
Nothing p = (p.size ≡ 0) × (p.setter ≡ false)

-- shares beside a group, and beside the group with some parts left out: one share for each part, and 0 for a part of size 0
pub record SameShares (ps qs : List Part) (ns ks : List ℕ) : Type 0 where
  pub share : Part → ℕ
  pub whole : ns ≡ map share ps
  pub kept : ks ≡ map share qs
  pub zero : (p : Part) → Memᴰ p ps → p.size ≡ 0 → share p ≡ 0

second_zero : (lot q s : ℕ) (p : Part) → p.size ≡ 0 → second_step lot q s p ≡ 0
second_zero lot q s p e = omega arith

module _ {ps qs : List Part} (t : Thin Nothing ps qs) (m : ℕ) (r : Rising m ps) where
  -- shares that go round
  pub round_zeros : (before : Part → Part → Bool) → Weak before → (want : Part → ℕ) → ((p : Part) → p.size ≡ 0 → want p ≡ 0) → (left : ℕ)
      → SameShares ps qs (round before want left ps) (round before want left qs)
  unfolding round
  round_zeros before w want h left = record {
    share = λ p. goes_round want left (ranked before ps) p.number;
    whole = refl;
    kept = map_same qs (λ p i. sym (goes_thin (λ x z. z.0) t m r before w want h left p.number));
    zero = λ p i e.
        let u = turn want p (ranked before ps) (differ_ranked before m ps r) (mem_ranked before p ps i) left in
        omega (arith, u.took, (taking_le want u.met p).1, h p e);
  }

  lot_thin : (lot q : ℕ) (p : Part) → lot_share lot q ps p ≡ lot_share lot q qs p
  unfolding lot_share
  lot_thin lot q p =
      rw (sym (thin_total part_size (λ x z. z.0) t), sym (thin_total (first_step lot q (total part_size ps)) (λ x z. first_zero lot q (total part_size ps) x z.0) t))
      (ap (λ n. first_step lot q (total part_size ps) p + n)
      (goes_thin (λ x z. z.0) t m r larger by_size (second_step lot q (total part_size ps)) (second_zero lot q (total part_size ps))
      (q - total (first_step lot q (total part_size ps)) ps) p.number))

  -- lot sharing
  pub lots_zeros : (lot q : ℕ) → SameShares ps qs (lot_sharing lot q ps) (lot_sharing lot q qs)
  lots_zeros lot q = record {
    share = lot_share lot q ps;
    whole = lots_map lot q ps;
    kept = lots_map lot q qs ∙ map_same qs (λ p i. sym (lot_thin lot q p));
    zero = lots_zero lot q ps m r;
  }

  of_thin : (f g : Part → ℕ) → ((p : Part) → f p ≡ g p) → of_setter ps (map f ps) ≡ of_setter qs (map g qs)
  of_thin f g h =
      of_setter_lem f ps ∙ thin_total (λ p. or_zero p.setter (f p)) (λ p z. rw z.1) t
      ∙ total_same qs (λ p i. ap (or_zero p.setter) (h p)) ∙ sym (of_setter_lem g qs)

  guaranteed_thin : (q : ℕ) → guaranteed q ps ≡ guaranteed q qs
  guaranteed_thin q = of_thin (guarantee q) (guarantee q) (λ p. refl)

  keeps_thin : (lot q : ℕ) → keeps_guarantee lot q ps ≡ keeps_guarantee lot q qs
  unfolding keeps_guarantee
  keeps_thin lot q =
      rw (lots_map lot q ps, lots_map lot q qs, thin_any is_setter (λ p z. z.1) t, of_thin (lot_share lot q ps) (lot_share lot q qs) (lot_thin lot q), guaranteed_thin q)

without_nothing : (p : Part) → Nothing p → Nothing (without_setter p)
without_nothing p z = rw z.1 (z.0, refl)

module _ {ps qs : List Part} (t : Thin Nothing ps qs) (m : ℕ) (r : Rising m ps) where
  setter_thin : (lot q : ℕ) (p : Part) → setter_share lot q ps p ≡ setter_share lot q qs p
  unfolding setter_share
  setter_thin lot q p =
      let others-thin = thin_map without_setter without_nothing t in
      rw (
        keeps_thin t m r lot q,
        lot_thin t m r lot q p,
        guaranteed_thin t m r q,
        lot_thin others-thin m (others_rising m ps r) lot (q - guaranteed q qs) (without_setter p),
      )

  -- the setter's variation
  pub setter_zeros : (lot q : ℕ) → SameShares ps qs (setter_sharing lot q ps) (setter_sharing lot q qs)
  setter_zeros lot q = record {
    share = setter_share lot q ps;
    whole = setter_map lot q ps;
    kept = setter_map lot q qs ∙ map_same qs (λ p i. sym (setter_thin lot q p));
    zero = setters_zero lot q m ps r;
  }
