use Rattle.std.proofs.Common.{ℕ, List, Option, IfSome, sym, ap, subst, ◌∙◌}
use Rattle.line_bytes.specs.Tables.{row_of}
use Rattle.sys_forge.specs.Whole.{IsAssembled}
use Rattle.image_forge.specs.Forged.{IsFileOf}
use Rattle.image_forge.proofs.forge.forge_image.Goals as goal

pub returns-in-Ok-Some-clause-ok : goal.returns-in-Ok-Some-clause-ok
returns-in-Ok-Some-clause-ok c =
    let a = c.in-Ok.assembled in
    let found = subst (λ (file : Option (List ℕ)). IfSome file (λ bytes. IsFileOf a.tables a.bytes a.places.items c.in-Some.address bytes)) c.in-Ok-Some.field-0-is c.in-Ok-Some.ensures in
    record {
      tables = a.tables;
      out = a.bytes;
      places = a.places.items;
      assembled = subst (λ (source : List ℕ). IsAssembled source a.tables a.bytes a.places.items) c.as_slice-source.ensures c.in-Ok.ensures.ok;
      place = c.in-Some.field-0-0;
      address = c.in-Some.address;
      entry = ap (row_of a.tables.labels) (sym c.as_slice.ensures) ∙ sym c.in-Some.ensures;
      is = found;
    }
