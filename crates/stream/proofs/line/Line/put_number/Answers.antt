-- `put_number` is right: the digits stand behind the tab.
use Rattle.std.proofs.Common.{ap, ◌∙◌, ◌∷◌, ◌++◌, ◌-◌, take, length, List, ℕ}
use Rattle.stream.proofs.Puts.{put_behind}
use Rattle.stream.proofs.line.Line.put_number.Goals as goal

pub returns-clause-put : goal.returns-clause-put
returns-clause-put g c = (
  c.decimal-k.result,
  c.decimal-k.ensures.len,
  c.put-2.ensures.put
      ∙ put_behind g.row.N c.args.self.now c.put.new.self 9 _ c.put.ensures.put
      ∙ ap (λ (d : List ℕ). c.args.self.now ++ take (g.row.N - length c.args.self.now) (9 ∷ d)) c.decimal-k.ensures.digits,
)
