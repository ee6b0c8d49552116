-- What is read behind the name of a kind.
use Rattle.std.proofs.Common.{◌≡◌, ℕ, List, Option, Some, None, ap, ◌∙◌}
use Rattle.log_fields.specs.Codes.{and_then, find, before_end, from_end, past, read_past}
use Rattle.log_fields.specs.ExactLaws.{chosen_at, chosen_none}
use Rattle.call_log.specs.Kinds.{kind_name, kinds_all}
use Rattle.call_log.specs.Lines.{line, Fields, fields, shape, read_fields}
use Rattle.call_log.specs.declared.kinds.Kind.{Kind}

pub line_at : (bytes after : List ℕ) (k : Kind) → find kind_name kinds_all (before_end bytes) ≡ Some k → past 32 (from_end bytes) ≡ Some after → line.read bytes ≡ read_fields k after
unfolding line
line_at bytes after k h p = chosen_at kind_name kinds_all Fields fields bytes k h ∙ ap (λ (o : Option (List ℕ)). and_then (read_past (shape k).code.read o) (λ y rest. Some ((k, y), rest))) p

pub line_no_kind : (bytes : List ℕ) → find kind_name kinds_all (before_end bytes) ≡ None → line.read bytes ≡ None
unfolding line
line_no_kind bytes h = chosen_none kind_name kinds_all Fields fields bytes h

pub line_no_blank : (bytes : List ℕ) (k : Kind) → find kind_name kinds_all (before_end bytes) ≡ Some k → past 32 (from_end bytes) ≡ None → line.read bytes ≡ None
unfolding line
line_no_blank bytes k h p = chosen_at kind_name kinds_all Fields fields bytes k h ∙ ap (λ (o : Option (List ℕ)). and_then (read_past (shape k).code.read o) (λ y rest. Some ((k, y), rest))) p
