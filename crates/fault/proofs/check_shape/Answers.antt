-- `check_shape` is right: the rules that are judged by are those of the kind, and the key sought is its key.
use Rattle.fault.proofs.check_shape.Goals as goal

pub judge_fields-requires : goal.judge_fields-requires
judge_fields-requires c = ((c.rules_of-rules.ensures c.args.fixed.now).within, c.requires.0, c.requires.1)
