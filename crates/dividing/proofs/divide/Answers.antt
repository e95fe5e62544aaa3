-- `dividing::divide` meets its contract, method by method.
use mathlib.Core.Path.{sym, ap, ◌∙◌}
use Rattle.sharing.specs.Lots.{lot_sharing}
use Rattle.sharing.specs.Setter.{setter_sharing}
use Rattle.dividing.proofs.LotSteps.{divided_left}
use Rattle.dividing.proofs.divide.Goals as goal

pub returns-in-Time : goal.returns-in-Time
returns-in-Time c = rw (c.in-InTurn.is, c.in-Time.is) (c.by_time.ensures c.args.setter)

pub returns-in-Minimum : goal.returns-in-Minimum
returns-in-Minimum c = rw (c.in-InTurn.is, c.in-Minimum.is) (c.by_minimum.ensures c.args.setter)

pub returns-in-Lots : goal.returns-in-Lots
returns-in-Lots c =
    rw c.in-Lots.is
    (λ ps g. c.lot_sharing.ensures ps (record { start = g.start; rising = g.rising; free = g.asked; same = g.sized })
    ∙ ap (λ q. lot_sharing c.args.amounts.lot.0 q ps) (sym (divided_left ps g.sized c.args.amounts.left.0 c.requires.0.totals c.requires.0.within)))

pub returns-in-Setter : goal.returns-in-Setter
returns-in-Setter c =
    rw c.in-Setter.is
    (λ ps g. c.setter_sharing.ensures ps (record { start = g.start; rising = g.rising; free = g.asked.0; same = g.sized }) g.asked.1
    ∙ ap (λ q. setter_sharing c.args.amounts.lot.0 q ps) (sym (divided_left ps g.sized c.args.amounts.left.0 c.requires.0.totals c.requires.0.within)))
