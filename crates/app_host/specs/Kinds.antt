-- A reply that is sent or does not fit, apart from no reply.
-- Pinned by: `HostOnce`, `tests/frames/host_lines.py`, `judge`
use Rattle.std.specs.Prelude.{ℕ, ◌≡◌, IfSome, List, None, Option, Some}
use Rattle.app_host.specs.Host.{RepliesBytes}
use Rattle.app_host.specs.IcmpEcho.{KeepsDscp, reply_dscp}
use Rattle.app_host.specs.declared.host.Host.{Host}
use Rattle.ip_wire.specs.Frame.{Carried}
use Rattle.ip_wire.specs.Reply.{Sends}
use Rattle.ip_wire.specs.Types.{EthernetRepr}

-- There is a reply, which is written or does not fit. Or there is none, and the buffer is unchanged.
abbrev pub Tries : (Carried → ℕ) → (EthernetRepr → Carried → Type 0) → List ℕ → List ℕ → Option (Option ℕ) → Type 0
Tries dscp IsReply old new None = (new ≡ old) × ((header : EthernetRepr) (carried : Carried) → ¬ IsReply header carried)
Tries dscp IsReply old new (Some sent) = ((header : EthernetRepr) × (carried : Carried) × IsReply header carried) × Sends dscp IsReply old new sent

-- The host's reply to a frame is written or does not fit, or there is none. A reply to an echo request keeps its DSCP.
pub record TriesReply (host : Host) (bytes old new : List ℕ) (result : Option (Option ℕ)) : Type 0 where
  pub tries : Tries (reply_dscp bytes) (RepliesBytes host bytes) old new result
  pub dscp : IfSome result (λ sent. IfSome sent (λ len. KeepsDscp host.interface bytes new))
