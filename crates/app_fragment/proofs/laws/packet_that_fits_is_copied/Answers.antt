use Rattle.app_fragment.proofs.Copied.{call-copies}
use Rattle.app_fragment.proofs.laws.packet_that_fits_is_copied.Goals as goal

pub returns : goal.returns
returns c =
    let e = c.fragment_ipv4.ensures in
    call-copies c.fragment_ipv4.result c.args.packet.now c.args.out.now c.fragment_ipv4.new.out c.args.mtu c.bytes_fit.ensures c.requires.fits c.requires.checksum
    (λ some. let may = e.accepted.0 some in may.0) e.next e.bytes
