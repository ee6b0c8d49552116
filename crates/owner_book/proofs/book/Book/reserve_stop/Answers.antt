use Rattle.std.proofs.Common.{ℕ, ◌+◌, ap, ◌∙◌, max}
use Rattle.std.proofs.lemmas.Result.{on_ok_weaker}
use Rattle.owner_book.proofs.Rooms.{room_for}
use Rattle.owner_book.proofs.book.Book.reserve_stop.Goals as goal

pub returns-clause-room : goal.returns-clause-room
returns-clause-room c = on_ok_weaker c.reserve.result (λ same a stands. room_for c.args.self.now a c.args.log.now.spare c.reserve.new.self.spare (same ∙ ap (λ (n : ℕ). max c.args.log.now.spare (n + 3)) c.stop_room.ensures.value) stands) c.reserve.ensures.ok
