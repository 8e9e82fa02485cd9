-- The state that fields without enums stand for.
use Rattle.std.specs.Prelude.{Some, None, if◌then◌else◌}
use Rattle.app_options.specs.declared.agreed.Agreed.{Agreed}
use Rattle.app_options.specs.declared.fields.AgreedFields.{AgreedFields}

-- what is agreed on
abbrev pub agreed_of : AgreedFields → Agreed
agreed_of f = record {
  offset = f.offset;
  peer_scale = if f.has_scale then Some f.peer_scale else None;
  has_sack = f.has_sack;
  recent = if f.has_timestamps then Some f.recent else None;
}
