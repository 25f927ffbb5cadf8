-- 776 bytes or more are enough for every table of form one: writing it there tells what the checks of the table tell. Assumes nothing.
use Rattle.std.specs.Prelude.{ℕ, ◌≡◌, ◌≤◌, ◌+◌, ◌*◌, List, Err, refl, take, replicate}
use Rattle.std.proofs.Common.{arith, sym, ◌∙◌}
use Prim.Native.Nat.{zero, suc}
use borrow.Author.Tests.{le-leb}
use Rattle.rules.specs.declared.Table.{Table}
use Rattle.rules.specs.declared.Refused as at_place
use Rattle.rules.specs.Answers.{Verdict, Accepted, Refused, written_outcome}
use Rattle.rules.specs.StoredTable.{table_verdict}
use Rattle.rules.specs.Writing.{unused_from, write_verdict, written_of, bytes_of, told_of, form_one}
use Rattle.rules.proofs.Checks.{few_rows}
use Rattle.rules.proofs.Outcomes.{refused}

zeros_unused : (n m at : ℕ) → unused_from at (take n (replicate m 0)) ≡ Accepted
zeros_unused zero m at = refl
zeros_unused (suc n) zero at = refl
zeros_unused (suc n) (suc m) at = zeros_unused n m (at + 1)

-- what is told of the bytes is what is told of the table
room : (table : Table) (size : ℕ) → 776 ≤ size → write_verdict (form_one table) size ≡ table_verdict table
room table size h = by_verdict (table_verdict table) refl
  where
    by_verdict : (v : Verdict) → table_verdict table ≡ v → write_verdict (form_one table) size ≡ v
    by_verdict Accepted e =
        let few = few_rows table e in
        rw (e, zeros_unused table.count 64 0, le-leb (8 + 12 * table.count) size (omega (arith, few, h))) refl
    by_verdict (Refused r k) e = rw e refl

told_verdict : (v : Verdict) (bytes : List ℕ) → (told_of v bytes).verdict ≡ v
told_verdict Accepted bytes = refl
told_verdict (Refused r k) bytes = refl

pub table_refused : (table : Table) (size : ℕ) (e : at_place.Refused) → 776 ≤ size → written_outcome (written_of (form_one table) size) ≡ Err e → table_verdict table ≡ Refused e.refusal e.place
table_refused table size e r h = sym (room table size r) ∙ sym (told_verdict _ (bytes_of (form_one table))) ∙ refused _ _ e h
