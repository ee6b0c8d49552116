-- What comes of NdisReadConfiguration, by what was found on the way.
use Rattle.std.proofs.Common.{◌≡◌, ℕ, ◌/◌, ◌%◌, true, List, nat_eq, Option, Result, refl, subst}
use Rattle.std.specs.Option.{option_and_then}
use Rattle.inf_file.specs.ByName.{value_of}
use Rattle.guest_world.specs.declared.world.World.{World}
use Rattle.guest_world.specs.declared.answer.Caller.{Caller}
use Rattle.guest_world.specs.declared.answer.Answer.{Answer}
use Rattle.guest_world.specs.declared.answer.CallRefusal.{CallRefusal}
use Rattle.import_answers.specs.World.{cells, word, params_of, is_configuration_handle}
use Rattle.import_answers.specs.Outcomes.{Comes, can_read, can_write}
use Rattle.import_answers.specs.Configuration.{Read, Counted, counted_at, units_at, read_as, given_value, looked_up, read_configuration}

looked_up_is : (w after : World) (x : Caller) (words : List ℕ) (keyword : Counted) (read : Option Read) (r : Result Answer CallRefusal) → keyword.length % 2 ≡ 0 → can_read w keyword.characters keyword.length ≡ true → read ≡ option_and_then (read_as (word words 5)) (value_of (units_at (cells w) keyword.characters (keyword.length / 2)) (params_of w x.adapter)) → Comes (given_value w words read) w r after → Comes (looked_up w x words keyword) w r after
looked_up_is w after x words keyword read r even readable is h =
    let on : nat_eq (keyword.length % 2) 0 ≡ true = rw even refl in
    rw (on, readable, ← is) h

pub read_comes : (w after : World) (x : Caller) (words : List ℕ) (keyword : Counted) (read : Option Read) (r : Result Answer CallRefusal) → can_write w (word words 1) 4 ≡ true → is_configuration_handle w x.adapter (word words 3) ≡ true → can_read w (word words 4) 8 ≡ true → keyword ≡ counted_at (cells w) (word words 4) → keyword.length % 2 ≡ 0 → can_read w keyword.characters keyword.length ≡ true → read ≡ option_and_then (read_as (word words 5)) (value_of (units_at (cells w) keyword.characters (keyword.length / 2)) (params_of w x.adapter)) → Comes (given_value w words read) w r after → Comes (read_configuration w x words) w r after
read_comes w after x words keyword read r status handle string same even readable is h =
    rw (status, handle, string) (let P : Counted → Type 0 = λ k. Comes (looked_up w x words k) w r after in subst P same (looked_up_is w after x words keyword read r even readable is h))
