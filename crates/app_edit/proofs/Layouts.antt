-- The payload of an IP packet, written in its place.
use Rattle.std.proofs.Common.{ℕ, ◌≡◌, ◌∙◌, ◌-◌, ◌≤◌, List, ap}
use borrow.Rule.Slice.PartMut.{put_mid}
use Rattle.ip_wire.specs.Types.{IpVersion}
use Rattle.app_edit.proofs.Payloads.{range-split}
use Rattle.app_edit.specs.Layout.{layout_of, payload_end, payload_start, with_payload}
use Rattle.app_edit.specs.declared.layout.Layout.{Layout}

-- the packet with what was written to the part of it that its layout gives
pub placed : (l : Layout) (v : IpVersion) (bytes part : List ℕ) → l ≡ layout_of v bytes → payload_start v bytes ≤ payload_end v bytes
    → put_mid l.start (l.end - l.start) bytes part ≡ with_payload v bytes part
placed l v bytes part is order =
    ap (λ (k : Layout). put_mid k.start (k.end - k.start) bytes part) is ∙ range-split bytes part (payload_start v bytes) (payload_end v bytes) order
