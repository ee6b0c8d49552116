use Rattle.std.proofs.Common.{◌≡◌, Ok, Err}
use Rattle.driver_script.proofs.Digits.{err_read}
use Rattle.driver_script.proofs.fields.two_octets.Goals as goal

pub returns-in-Err : goal.returns-in-Err
returns-in-Err c = err_read c.args.word.now 2 (λ bytes. (Err c.in-Err.field-0 ≡ Ok (tt {0})) × (c.decode_to_slice.new.out ≡ bytes)) _ c.in-Err.ensures.value (λ bytes h. let e = h.0 in absurd cc)
