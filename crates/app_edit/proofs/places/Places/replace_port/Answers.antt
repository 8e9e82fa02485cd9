use Rattle.std.proofs.Common.{◌≡◌, ◌∙◌, ap, arith, length, sym}
use Rattle.app_edit.proofs.EndSums.{header-untouched}
use Rattle.app_edit.proofs.PlacesStay.{port-in, port-room}
use Rattle.app_edit.proofs.Stays.{least-end}
use Rattle.app_edit.proofs.places.Places.replace_port.Goals as goal
use Rattle.app_edit.specs.Edited.{edited, header_checksum, with_header_checksum, with_transport_checksum, written}

pub returns : goal.returns
returns c =
    let p = c.args.self.now in
    let xs = c.args.frame.now in
    let at = c.args.at in
    let held = c.requires.places in
    let bytes = c.to_be_bytes-bytes.result in
    let within = port-in c.requires.place.0 p.carried p.version xs p.start at held.carried c.requires.place.1 in
    let room = port-room c.requires.place.0 p.carried p.version xs p.start at held.carried c.requires.place.1 in
    let two : length bytes ≡ 2 = ap length c.to_be_bytes-bytes.ensures in
    let head = with_header_checksum p.version (written xs at bytes) (header_checksum p.version p.start xs at bytes) in
    let untouched : head ≡ written xs at bytes =
    header-untouched p.version xs bytes p.start at c.bytes_fit.ensures (omega (arith, least-end p.version, held.header)) within.0 (omega (arith, within.1, room, two))
    in
    c.write_transport_checksum.ensures
    ∙ ap (λ ys. with_transport_checksum p.carried ys c.transport_over_port-transport.result) (c.write_at.ensures ∙ sym untouched)
    ∙ ap (λ n. with_transport_checksum p.carried head n) c.transport_over_port-transport.ensures
    ∙ ap (λ l. edited c.args.offload p xs at l) c.to_be_bytes-bytes.ensures
