-- Demand 2's own word for the deadline, the smallest number of slots that covers the object's own cost, the longest hold behind it and all
-- releases ahead of it: it is the smallest that balances, and none covers exactly if none balances. Assumes a cost of 1 at least, which
-- check 7 asks for.
use Rattle.std.specs.Prelude.{ℕ, ◌≤◌, ◌<◌, ◌≡◌, ◌↔◌, List}
use Rattle.std.proofs.Common.{sym, arith}
use Rattle.std.proofs.Math.Decide.{dec_lt}
use Rattle.rules.specs.declared.ObjectRow.{ObjectRow}
use Rattle.rules.specs.declared.PlanRow.{PlanRow}
use Rattle.rules.specs.Deadlines.{own_of, need_of}
use Rattle.rules.proofs.Balance.{window_grows, found, found_below}
use Rattle.promises.specs.Exactly.{IsDeadline, HasNone}
use Rattle.promises.specs.Covers.{Covers, SmallestCover, NoneCovers}

-- a number up to s that balances, the smallest such
record BalanceBelow (ahead : List PlanRow) (r : ObjectRow) (behind : List ObjectRow) (s : ℕ) : Type 0 where
  at : ℕ
  one : 1 ≤ at
  below : at ≤ s
  balances : at ≡ need_of ahead (own_of r behind) at
  smallest : (u : ℕ) → 1 ≤ u → u < at → u ≡ need_of ahead (own_of r behind) u → ⊥

module _ (ahead : List PlanRow) (r : ObjectRow) (behind : List ObjectRow) (some_cost : 1 ≤ r.cost) where
  -- there is one where s covers: what is needed grows with s, and is above 0
  balance_below : (s : ℕ) → 1 ≤ s → Covers ahead r behind s → BalanceBelow ahead r behind s
  balance_below s a c =
      let need : ℕ → ℕ = need_of ahead (own_of r behind) in
      let grows : (u t : ℕ) → u ≤ t → need u ≤ need t = λ u t l. omega (arith, window_grows ahead l) in
      let b = found_below need grows (λ u. omega arith) s s a (omega arith) c in
      let f = found need s 1 b.0 b.1 in
      record { at = b.0; one = f.from; below = b.2; balances = sym f.fixed; smallest = λ u x y e. f.moved u x y (sym e) }

  -- the deadline is the smallest that covers
  pub deadline_covers : (t : ℕ) → IsDeadline ahead r behind t ↔ SmallestCover ahead r behind t
  deadline_covers t = (covers, balances)
    where
      covers : IsDeadline ahead r behind t → SmallestCover ahead r behind t
      covers d =
          record {
            one = d.one;
            half = d.half;
            covers = omega (arith, d.balances);
            smallest = λ s a c.
                let b = balance_below s a c in
                elim (dec_lt b.at t) [
                  | yes l ↦ absurd (d.smallest b.at b.one l b.balances)
                  | no l ↦ omega (arith, b.below)
                ];
          }

      balances : SmallestCover ahead r behind t → IsDeadline ahead r behind t
      balances m =
          let b = balance_below t m.one m.covers in
          let e : b.at ≡ t = omega (arith, b.below, m.smallest b.at b.one (omega (arith, b.balances))) in
          record { one = m.one; half = m.half; balances = rw e at b.balances; smallest = λ u x y. b.smallest u x (omega arith) }

  -- and there is none exactly if none covers
  pub none_covers : HasNone ahead r behind ↔ NoneCovers ahead r behind
  none_covers = (one_below, λ n t a h e. n t a h (omega arith))
    where
      one_below : HasNone ahead r behind → NoneCovers ahead r behind
      one_below n t a h c = let b = balance_below t a c in n b.at b.one (omega (arith, b.below)) b.balances
