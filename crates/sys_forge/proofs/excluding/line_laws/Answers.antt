use Rattle.sys_forge.proofs.excluding.line_laws.Goals as goal

pub returns : goal.returns
returns c = record { made = c.made_is_one.ensures; piece = c.piece_is_one.ensures; reason = c.reason_is_one.ensures; excluded = c.bytes_exclude_refusal.ensures }
