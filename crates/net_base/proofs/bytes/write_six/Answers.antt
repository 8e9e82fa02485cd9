use Rattle.std.proofs.Common.{◌++◌, ◌∙◌, List, ℕ, drop, slice_range, ap}
use Rattle.net_base.proofs.ByteLists.{AreBytes-slice_range}
use Rattle.net_base.proofs.Cells.{four_bytes, six_written, two_bytes}
use Rattle.net_base.proofs.bytes.write_six.Goals as goal

pub returns : goal.returns
returns c =
    let six = c.args.six.now in
    let old = c.args.bytes.now in
    let high = four_bytes six c.read_u32.result c.fits-six c.read_u32.ensures in
    let low = two_bytes (slice_range six 4 6) c.read_u16.result (AreBytes-slice_range six 4 6 c.fits-six) c.read_u16.ensures in
    let word = c.write_u32.ensures ∙ ap (λ (front : List ℕ). front ++ drop 4 old) high in
    let half = c.write_u16.ensures ∙ ap (λ (front : List ℕ). front ++ drop 2 (slice_range c.write_u32.new.buf 4 6)) low in
    six_written six old c.write_u32.new.buf c.write_u16.new.buf c.told-six c.requires word half
