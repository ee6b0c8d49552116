use Rattle.std.proofs.Common.{◌≡◌, take, map}
use Rattle.image_forge.specs.Forged.{rva_of}
use Rattle.image_forge.proofs.forge.rvas_of.Given as goal

abbrev pub invariant-loop-place : goal.invariant-loop-place
invariant-loop-place l = l.rvas.items ≡ map rva_of (take l.place-index l.places)
