use Rattle.std.proofs.Common.{◌≡◌, true, Some, None, ap, ◌∙◌, sym}
use Rattle.std.specs.List.{position}
use Rattle.owner_machine.specs.State.{Owner}
use Rattle.owner_machine.specs.Packets.{out_of}
use Rattle.owner_machine.specs.Loans.{away_of}
use Rattle.owner_machine.specs.Requests.{open_of}
use Rattle.run_stops.specs.Standing.{state_of}
use Rattle.run_stops.specs.Stopping.{owner_of}
use Rattle.run_stops.proofs.Endings.{packet_may, loan_may, request_may, ends_packet, ends_loan, ends_request}
use Rattle.run_stops.proofs.tails.end_one.Goals as goal

pub complete-requires : goal.complete-requires
complete-requires g c =
    let owner = c.requires.0.runs.kept.owner in
    let found : position (out_of c.args.a.0) (owner_of g.c c.args.run.now).packets ≡ Some c.in-Some.k = sym (ap (λ (o : Owner). position (out_of c.args.a.0) o.packets) owner) ∙ sym c.first_packet.ensures ∙ c.in-Some.is in
    (c.requires.0.runs, packet_may c.stop_laws.ensures c.duties_are_served.ensures g.c c.args.a c.in-Some.k c.args.run.now c.requires.0 c.requires.1 found)

pub returns-in-Some-clause-one : goal.returns-in-Some-clause-one
returns-in-Some-clause-one g c =
    let owner = c.requires.0.runs.kept.owner in
    let found : position (out_of c.args.a.0) (owner_of g.c c.args.run.now).packets ≡ Some c.in-Some.k = sym (ap (λ (o : Owner). position (out_of c.args.a.0) o.packets) owner) ∙ sym c.first_packet.ensures ∙ c.in-Some.is in
    ends_packet c.stop_laws.ensures g.c c.args.a c.in-Some.k c.args.run.now c.complete.new.self c.requires.0 found c.complete.ensures

pub back-requires : goal.back-requires
back-requires g c =
    let owner = c.requires.0.runs.kept.owner in
    let none : position (out_of c.args.a.0) (owner_of g.c c.args.run.now).packets ≡ None = sym (ap (λ (o : Owner). position (out_of c.args.a.0) o.packets) owner) ∙ sym c.first_packet.ensures ∙ c.in_default.is in
    let found : position (away_of c.args.a.0) (owner_of g.c c.args.run.now).loans ≡ Some c.in-Some-first_loan.j = sym (ap (λ (o : Owner). position (away_of c.args.a.0) o.loans) owner) ∙ sym c.first_loan.ensures ∙ c.in-Some-first_loan.is in
    let may = loan_may c.stop_laws.ensures c.duties_are_served.ensures g.c c.args.a c.in-Some-first_loan.j c.args.run.now c.requires.0 c.requires.1 none found in
    (c.requires.0.runs, (may.0, ((c.back_is_live.ensures g.c (state_of g.c c.args.run.now) (record { 0 = c.in-Some-first_loan.j }) true (record { log = c.args.run.now.log.entries; reaches = c.requires.0.runs.reaches }) may.0).out, may.1)))

pub returns-in-Some-first_loan-clause-one : goal.returns-in-Some-first_loan-clause-one
returns-in-Some-first_loan-clause-one g c =
    let owner = c.requires.0.runs.kept.owner in
    let none : position (out_of c.args.a.0) (owner_of g.c c.args.run.now).packets ≡ None = sym (ap (λ (o : Owner). position (out_of c.args.a.0) o.packets) owner) ∙ sym c.first_packet.ensures ∙ c.in_default.is in
    let found : position (away_of c.args.a.0) (owner_of g.c c.args.run.now).loans ≡ Some c.in-Some-first_loan.j = sym (ap (λ (o : Owner). position (away_of c.args.a.0) o.loans) owner) ∙ sym c.first_loan.ensures ∙ c.in-Some-first_loan.is in
    ends_loan c.stop_laws.ensures g.c c.args.a c.in-Some-first_loan.j c.args.run.now c.back.new.self c.requires.0 none found c.back.ensures

pub fail_request-requires : goal.fail_request-requires
fail_request-requires g c =
    let owner = c.requires.0.runs.kept.owner in
    let none : position (out_of c.args.a.0) (owner_of g.c c.args.run.now).packets ≡ None = sym (ap (λ (o : Owner). position (out_of c.args.a.0) o.packets) owner) ∙ sym c.first_packet.ensures ∙ c.in_default.is in
    let nor : position (away_of c.args.a.0) (owner_of g.c c.args.run.now).loans ≡ None = sym (ap (λ (o : Owner). position (away_of c.args.a.0) o.loans) owner) ∙ sym c.first_loan.ensures ∙ c.in_default-first_loan.is in
    let found : position (open_of c.args.a.0) (owner_of g.c c.args.run.now).requests ≡ Some c.in-Some-first_request.r = sym (ap (λ (o : Owner). position (open_of c.args.a.0) o.requests) owner) ∙ sym c.first_request.ensures ∙ c.in-Some-first_request.is in
    (c.requires.0.runs, request_may c.stop_laws.ensures c.duties_are_served.ensures g.c c.args.a c.in-Some-first_request.r c.args.run.now c.requires.0 c.requires.1 none nor found)

pub returns-in-Some-first_request-clause-one : goal.returns-in-Some-first_request-clause-one
returns-in-Some-first_request-clause-one g c =
    let owner = c.requires.0.runs.kept.owner in
    let none : position (out_of c.args.a.0) (owner_of g.c c.args.run.now).packets ≡ None = sym (ap (λ (o : Owner). position (out_of c.args.a.0) o.packets) owner) ∙ sym c.first_packet.ensures ∙ c.in_default.is in
    let nor : position (away_of c.args.a.0) (owner_of g.c c.args.run.now).loans ≡ None = sym (ap (λ (o : Owner). position (away_of c.args.a.0) o.loans) owner) ∙ sym c.first_loan.ensures ∙ c.in_default-first_loan.is in
    let found : position (open_of c.args.a.0) (owner_of g.c c.args.run.now).requests ≡ Some c.in-Some-first_request.r = sym (ap (λ (o : Owner). position (open_of c.args.a.0) o.requests) owner) ∙ sym c.first_request.ensures ∙ c.in-Some-first_request.is in
    ends_request c.stop_laws.ensures g.c c.args.a c.in-Some-first_request.r c.args.run.now c.fail_request.new.run c.requires.0 none nor found c.fail_request.ensures
