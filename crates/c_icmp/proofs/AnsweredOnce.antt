-- The answer of a host is one length and one frame.
use Rattle.std.proofs.Common.{ℕ, ℤ, pos, ◌≡◌, ◌∙◌, ◌⊎◌, ◌<◌, ◌≤◌, List, Option, None, Some, inl, inr, length, ap, arith, sym}
use Rattle.std.proofs.lemmas.Bool.{cases_lt}
use Rattle.app_host.proofs.HostOnce.{bytes-once}
use Rattle.app_host.specs.Host.{RepliesBytes}
use Rattle.app_host.specs.IcmpEcho.{reply_dscp}
use Rattle.app_host.specs.declared.host.Host.{Host}
use Rattle.app_host.proofs.RepliesOnce.{IsOne, written-once}
use Rattle.ip_wire.specs.Frame.{Carried}
use Rattle.ip_wire.specs.Reply.{IsWritten, reply_len}
use Rattle.ip_wire.specs.Types.{EthernetRepr}
use Rattle.c_icmp.specs.HostFields.{WritesAnswer}
use Rattle.c_icmp.specs.Interfaces.{WritesReply}
use Rattle.c_structs.specs.Written.{max_len}

-- a reply that fits is written
fits-or-not : (dscp : Carried → ℕ) (P : EthernetRepr → Carried → Type 0) (old new : List ℕ) (n : ℕ) (h : EthernetRepr) (c : Carried) → IsOne P → IsWritten dscp P old new n
    → length old ≤ max_len → P h c → ¬ ((length old < reply_len c) ⊎ (max_len < length old))
fits-or-not dscp P old new n h c one w room r (inl short) =
    let same = ap reply_len (one w.header h w.carried c w.replies r).1 in let size = w.size in let fits = w.fits in omega (arith, short, same, size, fits)
fits-or-not dscp P old new n h c one w room r (inr long) = omega (arith, room, long)

pub reply-once : (dscp : Carried → ℕ) (P : EthernetRepr → Carried → Type 0) (old new other : List ℕ) (a b : ℤ) → IsOne P → WritesReply dscp P old new a
    → WritesReply dscp P old other b → (a ≡ b) × (new ≡ other)
reply-once dscp P old new other a b one (inl (n, is, room, v)) (inl (m, also, again, w)) =
    let same = written-once dscp P old new other n m one v w in (is ∙ ap pos same.0 ∙ sym also, same.1)
reply-once dscp P old new other a b one (inl (n, is, room, v)) (inr (inl (fail, stays, (h, c, r, short)))) = absurd (fits-or-not dscp P old new n h c one v room r short)
reply-once dscp P old new other a b one (inl (n, is, room, v)) (inr (inr (zero, stays, never))) = absurd (never v.header v.carried v.replies)
reply-once dscp P old new other a b one (inr (inl (fail, stays, (h, c, r, short)))) (inl (m, also, room, w)) = absurd (fits-or-not dscp P old other m h c one w room r short)
reply-once dscp P old new other a b one (inr (inl (fail, stays, read))) (inr (inl (also, same, again))) = (fail ∙ sym also, stays ∙ sym same)
reply-once dscp P old new other a b one (inr (inl (fail, stays, (h, c, r, short)))) (inr (inr (zero, same, never))) = absurd (never h c r)
reply-once dscp P old new other a b one (inr (inr (zero, stays, never))) (inl (m, also, room, w)) = absurd (never w.header w.carried w.replies)
reply-once dscp P old new other a b one (inr (inr (zero, stays, never))) (inr (inl (fail, same, (h, c, r, short)))) = absurd (never h c r)
reply-once dscp P old new other a b one (inr (inr (zero, stays, never))) (inr (inr (also, same, none))) = (zero ∙ sym also, stays ∙ sym same)

answer-once : (host : Option Host) (frame old new other : List ℕ) (a b : ℤ) → WritesAnswer host frame old new a → WritesAnswer host frame old other b
    → (a ≡ b) × (new ≡ other)
answer-once None frame old new other a b (fail, stays) (also, same) = (fail ∙ sym also, stays ∙ sym same)
answer-once (Some host) frame old new other a b v w = elim (cases_lt max_len (length frame)) [
  | inl long ↦
      let (fail, stays) = v.too_long long in
      let (also, same) = w.too_long long in
      (fail ∙ sym also, stays ∙ sym same)
  | inr short ↦ reply-once (reply_dscp frame) (RepliesBytes host frame) old new other a b (bytes-once host frame) (v.usable short) (w.usable short)
]
