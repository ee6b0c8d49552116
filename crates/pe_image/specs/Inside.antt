-- What an image keeps of its file.
use Rattle.std.specs.Prelude.{◌≡◌, length, map}
use Rattle.pe_image.specs.declared.image.Image.TheInside.{Inside}
use Rattle.pe_image.specs.Image.{ImageParts, section_parts, IsLaidOut}
use Rattle.pe_image.specs.Limits.{IsLimited}

abbrev pub parts_inside : Inside → ImageParts
parts_inside image = record {
  base = image.base;
  entry = image.entry;
  size = image.size;
  header_size = image.header_size;
  headers = image.headers.items;
  sections = section_parts image.sections.items (map (λ bytes. bytes.items) image.contents.items);
  relocations = image.relocations.items;
  imports = image.imports.items;
}

-- the invariant of an image: a raw part for each section, the layout and the limits
pub record IsKept (image : Inside) : Type 0 where
  pub raw_parts : length image.contents.items ≡ length image.sections.items
  pub laid_out : IsLaidOut (parts_inside image)
  pub limited : IsLimited (parts_inside image)
