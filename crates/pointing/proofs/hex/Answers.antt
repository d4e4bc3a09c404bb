-- The kit's digits, made capitals.
use Rattle.pointing.proofs.Hexes.{capital_hex}
use Rattle.pointing.proofs.hex.Goals as goal

pub returns : goal.returns
returns c =
    let low = c.hex-k in
    let high = capital_hex c.args.n low.result _ low.ensures.in_bounds.0 low.ensures.len low.ensures.digits in
    rw c.make_ascii_uppercase.ensures.after (record { prefix_len = high.0; hex = high.1 })
