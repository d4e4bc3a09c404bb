-- `read_on` is right: the read is lent what is behind the unread bytes, and so leaves them as they were.
use Rattle.std.proofs.Common.{rules, ◌-◌, length}
use native.Mathlib.Omega.{arith}
use mathlib.Core.Path.{refl}
use borrow.Rule.Slice.PartMut.{take_put}
use Rattle.stream.proofs.Moves.{unread_same}
use Rattle.stream.proofs.input.read_on.Goals as goal

pub returns-in-Ok-eq0 : goal.returns-in-Ok-eq0
returns-in-Ok-eq0 g c =
    let a = c.args in
    let w = a.window.now in (
      record {
        ordered = search rules;
        within = search rules;
        longer = omega arith;
        kept =
            unread_same w _ a.u.from a.u.to (omega arith)
            (take_put a.u.to (length w - a.u.to) w c.read_some.new.room (omega arith));
      },
      refl,
    )

pub returns-in-Ok : goal.returns-in-Ok
returns-in-Ok g c =
    let a = c.args in
    let w = a.window.now in (
      record {
        ordered = search rules;
        within = search rules;
        longer = omega arith;
        kept =
            unread_same w _ a.u.from a.u.to (omega arith)
            (take_put a.u.to (length w - a.u.to) w c.read_some.new.room (omega arith));
      },
      omega arith,
    )
