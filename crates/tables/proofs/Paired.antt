-- A walk over rows with their first releases: what stands at each turn. Assumes nothing.
use Rattle.std.proofs.Common.{Iter, ◌≡◌, ap, ◌∙◌, ℕ, ◌+◌, ◌<◌, arith, length, get_or, List}
use Rattle.std.specs.List.{zip, enumerate_from}
use Rattle.std.specs.declared.iter.Enumerate.{Enumerate}
use Rattle.std.specs.declared.iter.Zip.{Zip}
use Rattle.std.specs.Iterator.Adapters.{enumerate_source, enumerate_count, enumerate_steps, zip_first, zip_second}
use Rattle.std.specs.Slice.Iter.{iter_rest}
use Rattle.std.proofs.iter.Yields.{fronts}
use Rattle.std.proofs.lemmas.Iterator.{YieldsList, YieldsList-from_slice, YieldsList-from_zip, zips}
use Rattle.std.proofs.lemmas.Iterator.Consumers.{YieldsList-from_enumerate}
use Rattle.std.proofs.lemmas.List.{get_or_read}
use Rattle.std.proofs.lemmas.List.FromFn.{length-enumerate_from, get_or-enumerate_from}
use Rattle.std.proofs.lemmas.Slice.Zip.{length-zip, get_or-zip}
use Rattle.rules.specs.declared.ObjectRow.{ObjectRow}
use Rattle.rules.specs.StoredTable.{no_row}

-- the rows with their first releases, counted
pub in_turn : {s : Enumerate (Zip (Iter ObjectRow) (Iter ℕ))} (rows : List ObjectRow) (firsts : List ℕ)
    → iter_rest (zip_first (enumerate_source s)) ≡ rows → iter_rest (zip_second (enumerate_source s)) ≡ firsts → enumerate_count s ≡ 0
    → YieldsList {B = ℕ × (ObjectRow × ℕ)} (enumerate_steps (zips fronts fronts)) (λ p. (p.0, (p.1.0.now, p.1.1.now))) s (enumerate_from 0 (zip rows firsts))
in_turn rows firsts e f g = YieldsList-from_enumerate (YieldsList-from_zip (YieldsList-from_slice rows e) (YieldsList-from_slice firsts f)) g

-- the turn that comes after n of them
pub record Turn (rows : List ObjectRow) (firsts : List ℕ) (n i : ℕ) (row : ObjectRow) (first : ℕ) : Type 0 where
  pub in_rows : n < length rows
  pub in_firsts : n < length firsts
  pub at : i ≡ n
  pub row_is : row ≡ get_or rows n no_row
  pub first_is : first ≡ get_or firsts n 0

pub turn : (rows : List ObjectRow) (firsts : List ℕ) (n i : ℕ) (row : ObjectRow) (first : ℕ)
    → (n < length (enumerate_from 0 (zip rows firsts))) × ((i, (row, first)) ≡ get_or (enumerate_from 0 (zip rows firsts)) n (i, (row, first))) → Turn rows firsts n i row first
turn rows firsts n i row first t =
    let h : n < length (zip rows firsts) = omega (arith, t.0, length-enumerate_from 0 (zip rows firsts)) in
    let a : n < length rows = omega (arith, length-zip rows firsts) in
    let b : n < length firsts = omega (arith, length-zip rows firsts) in
    let e = t.1 ∙ (get_or-enumerate_from 0 (zip rows firsts) n (i, (row, first)) h ∙ ap (λ (p : ObjectRow × ℕ). (0 + n, p)) (get_or-zip rows firsts n (row, first) a b)) in
    record {
      in_rows = a;
      in_firsts = b;
      at = omega (arith, ap (λ (p : ℕ × (ObjectRow × ℕ)). p.0) e);
      row_is = (get_or_read rows n row a (ap (λ (p : ℕ × (ObjectRow × ℕ)). p.1.0) e) no_row);
      first_is = (get_or_read firsts n first b (ap (λ (p : ℕ × (ObjectRow × ℕ)). p.1.1) e) 0);
    }
