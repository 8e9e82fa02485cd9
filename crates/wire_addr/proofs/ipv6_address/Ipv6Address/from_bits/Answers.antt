use Rattle.std.proofs.Common.{◌∙◌, ap}
use Rattle.std.proofs.lemmas.List.{append-nil}
use Rattle.std.proofs.Math.Nat.{mod-eq_of_lt}
use Rattle.byteorder.specs.Endian.{big_bytes}
use Rattle.wire_addr.specs.Prefix.{number_of}
use Rattle.wire_addr.proofs.Numbers.{number_of_bytes}
use Rattle.wire_addr.proofs.ipv6_address.Ipv6Address.from_bits.Goals as goal

pub returns-clause-value : goal.returns-clause-value
returns-clause-value c = ap number_of (c.write_u128.ensures ∙ append-nil (big_bytes 16 c.args.bits)) ∙ number_of_bytes 16 c.args.bits ∙ mod-eq_of_lt c.ranges.bits.fits
