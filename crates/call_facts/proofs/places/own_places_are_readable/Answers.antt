use Rattle.call_facts.proofs.Readable.{Ground}
use Rattle.call_facts.proofs.OwnPlaces.{answers, ends, judges, statuses}
use Rattle.call_facts.proofs.places.own_places_are_readable.Goals as goal

pub returns : goal.returns
returns c =
    let g : Ground = record {
      lies = c.image_lies_in_its_size.ensures;
      looks = c.look_up_laws.ensures;
      writes = c.write_laws.ensures;
      faults = c.fault_laws.ensures;
      blanks = c.regions_are_blank.ensures;
      keep = c.calls_keep.ensures;
      on = c.runs_go_on.ensures;
    } in
    record {
      answers = answers g c.places_lie_in_regions.ensures;
      ends = ends g;
      judges = λ i s x fits is. judges g c.adapters_are_given.ensures i s x fits is (λ k. statuses g c.run_laws.ensures c.entry_laws.ensures c.lists_keep_their_lengths.ensures i s k fits is);
      statuses = statuses g c.run_laws.ensures c.entry_laws.ensures c.lists_keep_their_lengths.ensures;
    }
