-- Timestamps, and protection against wrapped sequence numbers (PAWS; RFC 7323, sections 3 to 5), in milliseconds.
-- Pinned by: `options/timestamps`
use Rattle.std.specs.Prelude.{ℕ, ◌+◌, ◌%◌, Bool, true, false, not, ◌&&◌, nat_lt, if◌then◌else◌, Option, Some, None}
use Rattle.tcp_stream.specs.Endpoint.{distance, is_ahead, is_earlier}
use Rattle.app_options.specs.declared.timestamps.Recent.{Recent}

-- the timestamp clock at a time (section 5.4)
abbrev pub stamp : ℕ → ℕ → ℕ
stamp offset now = (offset + now) % 4294967296

-- TS.Recent is older than 24 days, so it is not used (section 5.5)
abbrev pub is_outdated : Recent → ℕ → Bool
is_outdated recent now = nat_lt (recent.heard_at + 2073600000) now

-- A timestamp shows an old duplicate (section 5.3, the first rule). Timestamps have the order of sequence numbers (section 5.2).
abbrev pub is_old : Recent → ℕ → ℕ → Bool
is_old recent tsval now = not (is_outdated recent now) && is_earlier tsval recent.value

-- Whether a segment without RST is taken, by TS.Recent and its own timestamp. If timestamps are agreed on, each segment has one
-- (section 3.2).
abbrev pub takes : Option Recent → Option (ℕ × ℕ) → ℕ → Bool
takes None timestamp now = true
takes (Some recent) None now = false
takes (Some recent) (Some timestamp) now = not (is_old recent timestamp.0 now)

-- TS.Recent after a SYN (section 3.2), if it has a timestamp
abbrev pub heard : Option (ℕ × ℕ) → ℕ → Option Recent
heard None now = None
heard (Some timestamp) now = Some (record { value = timestamp.0; heard_at = now })

-- TS.Recent after a segment whose timestamp counts (section 4.3)
abbrev pub updated : Option Recent → Option (ℕ × ℕ) → ℕ → Option Recent
updated None timestamp now = None
updated (Some recent) None now = Some recent
updated (Some recent) (Some timestamp) now = heard (Some timestamp) now

-- the timestamp option of a segment that is no first SYN: TSval, and TSecr is TS.Recent (section 3.2)
abbrev pub echoes : Option Recent → ℕ → ℕ → Option (ℕ × ℕ)
echoes None offset now = None
echoes (Some recent) offset now = Some (stamp offset now, recent.value)

-- the time since the clock showed a timestamp, if it is not ahead of the clock
abbrev pub since : ℕ → ℕ → ℕ → Option ℕ
since offset stamped now = if is_ahead stamped (stamp offset now) then Some (distance (stamp offset now) stamped) else None

-- the round trip that the TSecr of a segment tells, if timestamps are agreed on (section 4.1)
abbrev pub round_trip : Option Recent → ℕ → Option (ℕ × ℕ) → ℕ → Option ℕ
round_trip None offset timestamp now = None
round_trip (Some recent) offset None now = None
round_trip (Some recent) offset (Some timestamp) now = since offset timestamp.1 now
