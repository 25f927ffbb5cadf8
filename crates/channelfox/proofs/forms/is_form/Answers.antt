-- `channelfox::forms::is_form` meets its contract. Assumes nothing.
use Rattle.std.proofs.Common.{rules, tests}
use Rattle.channelfox.specs.Forms.{is_form}
use Rattle.channelfox.proofs.forms.is_form.Goals as goal

pub returns-then-form-eq0 : goal.returns-then-form-eq0
unfolding is_form
returns-then-form-eq0 c = search (rules, tests)

pub returns-else-form-eq0 : goal.returns-else-form-eq0
unfolding is_form
returns-else-form-eq0 c = search (rules, tests)

pub returns-else-form-le2 : goal.returns-else-form-le2
unfolding is_form
returns-else-form-le2 c = search (rules, tests)
