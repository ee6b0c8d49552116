use Rattle.nd_mem.proofs.Laws.{get_put_in, get_put_out, get_put_at, get_put_apart, put_rights, put_append, put_wrapped}
use Rattle.nd_mem.proofs.space_laws.write_laws.Goals as goal

pub returns : goal.returns
returns c = record {
  written = get_put_in;
  others = get_put_out;
  written_at = get_put_at;
  others_at = get_put_apart;
  rights = put_rights;
  append = put_append;
  wraps = put_wrapped;
}
