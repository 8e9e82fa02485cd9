-- What C gets for the answer of a host.
use Rattle.std.proofs.Common.{◌≡◌, ◌≤◌, inl, inr, ℤ, pos, SFits, to_z, of_z, w64, List, ℕ, Option, Some, length, subst, sym}
use Rattle.std.proofs.lemmas.Int.{to_z-of_z}
use Rattle.app_host.proofs.Skips.{whole-read}
use Rattle.app_host.specs.Host.{IsUnread, RepliesBytes}
use Rattle.app_host.specs.IcmpEcho.{reply_dscp}
use Rattle.app_host.specs.declared.host.Host.{Host}
use Rattle.c_icmp.proofs.FrameReplies.{replied}
use Rattle.c_icmp.specs.HostFields.{WritesAnswer}
use Rattle.c_icmp.specs.Interfaces.{WritesReply}
use Rattle.c_structs.specs.Written.{max_len}

-- bytes that are not parsed have no reply
pub unanswered : (host : Host) (bytes old new : List ℕ) (answer : ℤ) → WritesReply (reply_dscp bytes) (RepliesBytes host bytes) old new answer → IsUnread bytes → answer ≡ pos 0
unanswered host bytes old new answer (inl (len, is, room, written)) unread =
    let (header, asked, reads, r) = written.replies in
    let (link, carried, whole) = whole-read bytes header asked reads in
    absurd (unread link carried whole)
unanswered host bytes old new answer (inr (inl (is, stays, (h, c, (header, asked, reads, r), short)))) unread =
    let (link, carried, whole) = whole-read bytes header asked reads in
    absurd (unread link carried whole)
unanswered host bytes old new answer (inr (inr (is, stays, none))) unread = is

-- the answer of the host that a struct describes
pub of_struct : (described : Option Host) (host : Host) (bytes old new : List ℕ) (answer : ℤ) → described ≡ Some host
    → length bytes ≤ max_len → WritesReply (reply_dscp bytes) (RepliesBytes host bytes) old new answer → SFits w64 answer → WritesAnswer described bytes old new (to_z w64 (of_z w64 answer))
of_struct described host bytes old new answer is short wrote fits =
    subst (WritesAnswer described bytes old new) (sym (to_z-of_z w64 answer fits))
    (subst (λ h. WritesAnswer h bytes old new answer) (sym is) (replied bytes (reply_dscp bytes) (RepliesBytes host bytes) old new answer short wrote))
