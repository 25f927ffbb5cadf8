-- Starting from stored bytes: what was read is refused or well-formed, and its first releases in priority order are the part in use of the array.
-- Assumes nothing.
use Rattle.std.proofs.Common.{◌≡◌, ℕ, ◌≤◌, List, Ok, take, refl, sym, ◌∙◌, take_at}
use lib.ListN.{length-map}
use Rattle.rules.specs.declared.StoredTable.{StoredTable}
use Rattle.rules.specs.Answers.{Accepted, stored_outcome}
use Rattle.rules.specs.StoredTable.{padded, table_verdict, stored_of, read_verdict, read_of}
use Rattle.rules.specs.Order.{places_of, firsts_in_order, ranked_firsts}
use Rattle.rules.specs.Run.{start_of, start_stored_of}
use Rattle.rules.proofs.Checks.{few_rows}
use Rattle.rules.proofs.Places.{places_length}
use Rattle.tables.proofs.Filling.{read_accepted}
use Rattle.rules.proofs.ReadBytes.{well_formed}

module _ (s : List ℕ) where
  module _ (x : StoredTable) (h : stored_outcome (read_of s) ≡ Ok x) where
    given : (read_verdict s ≡ Accepted) × (x ≡ stored_of s)
    given = read_accepted s x (sym h)

    formed : table_verdict x.table ≡ Accepted
    formed = rw given.1 (well_formed s given.0)

    pub few : x.table.count ≤ 64
    few = few_rows x.table formed

    -- with as many of the first releases in priority order as the table has rows
    pub started : (clock : ℕ) (rs : List ℕ) → rs ≡ ranked_firsts x → start_of x.table clock (take x.table.count rs) ≡ start_stored_of s clock
    started clock rs r =
        let table = x.table in
        let many = length-map (places_of table.rows table.count) _ ∙ places_length table.rows table.count in
        let all : ranked_firsts x ≡ padded table.count 0 (firsts_in_order x) = rw formed in
        let part : take table.count (padded table.count 0 (firsts_in_order x)) ≡ firsts_in_order x = take_at (firsts_in_order x) _ table.count many in
        let same : take table.count rs ≡ firsts_in_order x = rw (r, all) part in
        let as_read : start_of table clock (firsts_in_order x) ≡ start_stored_of s clock = rw (given.1, given.0) refl in
        rw same as_read
