use Rattle.run_stops.specs.Standing.{point_of}
use Rattle.run_calls.proofs.makes.make.Given as goal

abbrev pub ghost-write_light : goal.ghost-write_light
ghost-write_light g a = point_of g.v.inputs a.run.now
