use Rattle.std.proofs.Common.{refl, length}
use Rattle.app_connection.proofs.laws.a_new_connection_is_new.Goals as goal

pub returns : goal.returns
returns c = record {
  endpoint = c.new.ensures.endpoint;
  stands = c.new.ensures.stands c.args.incoming.now;
  out = c.new.ensures.out (length c.args.outgoing.now) c.requires.some c.requires.small;
  opened = refl;
  wrote = refl;
  read = refl;
  sent = refl;
}
