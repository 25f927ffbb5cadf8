-- Where the records of stored bytes lie, as the trailer says, and the arrays that they fill. Assumes nothing. The contracts of the private
-- functions behind `read` cite it; its own contract cites `read_of` of the rules.
use Rattle.std.specs.Prelude.{ℕ, ◌+◌, ◌*◌, ◌≤◌, List, Some, unwrap_or}
use Rattle.rules.specs.declared.Form.{Form}
use Rattle.rules.specs.declared.Form.TheVariants.{One}
use Rattle.rules.specs.StoredTable.{padded, record_size, records_of, form_of, count_of, records_start}
use Rattle.tables.specs.declared.trailer.Records.{Records}

-- the form of bytes that have one of the marks
abbrev pub marked_form : List ℕ → Form
marked_form s = unwrap_or (form_of s) One

abbrev pub records_in : List ℕ → Records
records_in s = record { form = marked_form s; start = records_start s; count = count_of s }

-- they fit a table, and lie within so many bytes
pub record AreWithin (records : Records) (size : ℕ) : Type 0 where
  pub few : records.count ≤ 64
  pub inside : records.start + record_size (Some records.form) * records.count ≤ size

-- one thing of each of them, and z after them
abbrev pub filled : {A : Type 0} → (List ℕ → ℕ → A) → A → List ℕ → Records → List A
filled f z s records = padded records.count z (records_of f (record_size (Some records.form)) s records.start records.count)
