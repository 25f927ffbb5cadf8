-- `running::lapses::lasts` meets its contract. Assumes nothing.
use Rattle.std.proofs.Common.{arith}
use Rattle.running.proofs.Ahead.{lasts_law}
use Rattle.running.proofs.lapses.lasts.Goals as goal

pub returns : goal.returns
returns c = λ e h. lasts_law c.args.clock c.args.validity c.args.sample e (omega (arith, h, c.age.ensures))
