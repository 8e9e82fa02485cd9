use Rattle.std.proofs.Common.{◌∷◌, get_or, take}
use Rattle.std.specs.Fmt.{HasWritten, IsPlainFormatter}
use Rattle.wire_addr.specs.Grammar.{colon}
use Rattle.wire_addr.proofs.Prints.{pairs_with}
use Rattle.wire_addr.proofs.raw_hardware_address.RawHardwareAddressDisplay.fmt.Given as goal

abbrev pub invariant-loop-octet : goal.invariant-loop-octet
invariant-loop-octet g l =
    IsPlainFormatter l.fn.f → HasWritten g.W.Write.write_str_gives l.fn.f (pairs_with colon (get_or l.fn.self 0 0 ∷ take l.octet-index l.rest)) l.f
