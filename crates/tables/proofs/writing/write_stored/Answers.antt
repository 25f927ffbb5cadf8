-- `tables::writing::write_stored` meets its contract: where nothing is refused, all is put. Assumes nothing.
use Rattle.std.proofs.Common.{sym, ap, unwrap_or, length}
use Rattle.std.proofs.lemmas.Result.{err_from_is_err_and}
use Rattle.rules.specs.declared.Form.TheVariants.{One}
use Rattle.rules.specs.Answers.{Verdict, written_outcome}
use Rattle.rules.specs.Writing.{write_verdict, bytes_of, told_of, left_of}
use Rattle.rules.proofs.Outcomes.{refused}
use Rattle.tables.proofs.writing.write_stored.Goals as goal

pub returns-in_err-form-clause-buffer : goal.returns-in_err-form-clause-buffer
returns-in_err-form-clause-buffer c =
    let a = c.args in
    let v = refused (write_verdict a.stored (length a.buffer.now)) (unwrap_or a.stored.form One) _ (sym c.in_err-form.ensures) in
    sym (ap (λ (v : Verdict). left_of v (bytes_of a.stored) a.buffer.now) v)

pub returns-in_err-form-clause-told : goal.returns-in_err-form-clause-told
returns-in_err-form-clause-told c =
    let a = c.args in
    let p = err_from_is_err_and c.from_residual.result c.from_residual.ensures.1 in
    let v = refused (write_verdict a.stored (length a.buffer.now)) (unwrap_or a.stored.form One) _ (sym c.in_err-form.ensures) in
    rw (p.1, p.2) (sym (ap (λ (v : Verdict). written_outcome (told_of v (bytes_of a.stored))) v))
