-- What goes again: the hole after a block, and the answer to a SYN.
use Rattle.std.proofs.Common.{◌≡◌, ◌⊎◌, inl, inr, refl, ◌∙◌, sym, ap, ℕ, ◌+◌, ◌*◌, ◌%◌, ◌≤◌, ◌<◌, Bool, true, false, arith, nat_lt}
use Rattle.std.specs.Prelude.{Option, Some, None, IfSome, nat_le, ◌-◌, ◌&&◌, ◌||◌, not}
use Rattle.std.proofs.lemmas.Bool.Decides.{nat_tests}
use Rattle.app_congestion.specs.Scoreboard.{IsHole, has, is_within}
use Rattle.app_congestion.specs.declared.scoreboard.Scoreboard.{Scoreboard}
use Rattle.app_connection.specs.declared.connection.Connection.{Connection}
use Rattle.app_connection.specs.declared.segment.Reply.{Reply}
use Rattle.app_connection.specs.declared.segment.Segment.{Segment}
use Rattle.app_connection.specs.declared.state.Phase.{Phase}
use Rattle.app_connection.specs.declared.state.Phase.TheVariants as phase
use Rattle.app_connection.specs.Endpoints.{endpoint_in, endpoint_of, len_of, spoken}
use Rattle.app_connection.specs.SetUp.{Endpoint, In_closed, In_listen, In_syn_sent, In_syn_received, In_established}
use Rattle.app_connection.specs.States.{has_peer, state_at, state_from, state_in}
use Rattle.app_connection.proofs.Going.{same_phase}
use Rattle.app_socket.specs.declared.socket.Socket.{Socket}
use Rattle.app_socket.specs.Losses.{HasTwoBlocks}
use Rattle.app_socket.specs.Promises.{ResendsSyn}
use Rattle.app_socket.specs.Resends.{is_due}
use Rattle.app_socket.specs.Times.{is_open, later}
use Rattle.app_socket.proofs.Lost.{due_at}

-- ---- holes

none_of : (a : Bool) → (a && false) ≡ false
none_of true = refl
none_of false = refl

within_not_yet : (l r n : ℕ) → n < l → is_within l r n ≡ false
within_not_yet l r n less = let e : nat_le l n ≡ false = grind (arith, nat_tests) in ap (λ (b : Bool). b && nat_lt n r) e

within_no_more : (l r n : ℕ) → r ≤ n → is_within l r n ≡ false
within_no_more l r n le = let e : nat_lt n r ≡ false = grind (arith, nat_tests) in ap (λ (b : Bool). nat_le l n && b) e ∙ none_of (nat_le l n)

within_now : (l r n : ℕ) → l ≤ n → n < r → is_within l r n ≡ true
within_now l r n le less =
    let e : nat_le l n ≡ true = grind (arith, nat_tests) in
    let f : nat_lt n r ≡ true = grind (arith, nat_tests) in
    ap (λ (b : Bool). b && nat_lt n r) e ∙ f

neither : (a b : Bool) → a ≡ false → b ≡ false → (a || b) ≡ false
neither true b is is2 = absurd (cc)
neither false b is is2 = is2

first_is : (a b : Bool) → a ≡ true → (a || b) ≡ true
first_is true b is = refl
first_is false b is = absurd (cc)

second_is : (a b : Bool) → a ≡ false → b ≡ true → (a || b) ≡ true
second_is true b is is2 = absurd (cc)
second_is false b is is2 = is2

-- before the first block
pub hole_before : (s : Scoreboard) (from a b c d : ℕ) → HasTwoBlocks s a b c d → from < a → IsHole s from from (a - from)
hole_before s from a b c d k less =
    let end : from + (a - from) ≡ a = omega (arith, less) in
    record {
      after = omega arith;
      some = omega (arith, less);
      before = λ n ge below. absurd (omega arith);
      lost = λ n ge below. k.known n ∙ neither (is_within a b n) (is_within c d n) (within_not_yet a b n (omega arith)) (within_not_yet c d n (omega (arith, k.first, k.apart)));
      next = ap (has s) end ∙ k.known a ∙ first_is (is_within a b a) (is_within c d a) (within_now a b a (omega arith) k.first);
    }

-- between both
pub hole_between : (s : Scoreboard) (from a b c d : ℕ) → HasTwoBlocks s a b c d → a ≤ from → from ≤ b → IsHole s from b (c - b)
hole_between s from a b c d k ge le =
    let end : b + (c - b) ≡ c = omega (arith, k.apart) in
    record {
      after = le;
      some = omega (arith, k.apart);
      before = λ n from below. k.known n ∙ first_is (is_within a b n) (is_within c d n) (within_now a b n (omega arith) below);
      lost = λ n from below. k.known n ∙ neither (is_within a b n) (is_within c d n) (within_no_more a b n from) (within_not_yet c d n (omega arith));
      next = ap (has s) end ∙ k.known c ∙ second_is (is_within a b c) (is_within c d c) (within_no_more a b c (omega (arith, k.apart))) (within_now c d c (omega arith) k.second);
    }

-- ---- the answer to a SYN

abbrev answer_of : ℕ → ℕ → Option Reply
answer_of iss irs = Some (record { number = iss; ack = Some ((irs + 1) % 4294967296); syn = true; rst = false })

abbrev answer_in : Endpoint → Option Reply
answer_in In_closed = None
answer_in In_listen = None
answer_in (In_syn_sent iss) = None
answer_in (In_syn_received passive iss irs) = answer_of iss irs
answer_in (In_established iss irs) = None

answer_at : (c : Connection) → c.phase ≡ phase.SynReceived → answer_in (endpoint_of c) ≡ answer_of c.iss c.irs
answer_at c at = ap (λ (p : Phase). answer_in (endpoint_in p c.is_passive c.iss c.irs)) at

-- in SYN-RECEIVED there is a peer, and no connection is open
has_heard : (c : Connection) → c.phase ≡ phase.SynReceived → has_peer (state_from c) ≡ true
has_heard c at = ap (λ (p : Phase). has_peer (state_in p (state_at c.sending.is_closed (not c.sending.has_fin) c.receiving.has_fin c.is_peer_first))) at

not_yet : (c : Connection) → c.phase ≡ phase.SynReceived → is_open (state_from c) ≡ false
not_yet c at = ap (λ (p : Phase). is_open (state_in p (state_at c.sending.is_closed (not c.sending.has_fin) c.receiving.has_fin c.is_peer_first))) at

pub record AnswersTwice (old new : Socket) (one two : Option Segment) : Type 0 where
  pub once : spoken one ≡ answer_of old.connection.iss old.connection.irs
  pub twice : spoken two ≡ answer_of old.connection.iss old.connection.irs
  pub ends : new.timers.ends_at ≡ old.timers.ends_at

pub answers_twice : (old mid new : Socket) (first second : ℕ) (one two : Option Segment) → old.connection.phase ≡ phase.SynReceived → is_due old.timers.resend_at first ≡ true → first + 2 * old.flow.rto.timeout ≤ second
    → second < old.timers.ends_at → ResendsSyn old mid first one → ResendsSyn mid new second two → AnswersTwice old new one two
answers_twice old mid new first second one two at due much patient again once_more =
    let s = again (has_heard old.connection at) (not_yet old.connection at) (omega arith) due in
    let at2 : mid.connection.phase ≡ phase.SynReceived = same_phase old.connection mid.connection s.stays ∙ at in
    let t =
    once_more (has_heard mid.connection at2) (not_yet mid.connection at2) (omega (arith, s.patience, patient))
    (due_at mid.timers.resend_at (later first mid.flow.rto.timeout) second s.timer (omega (arith, s.backs_off.timeout, much)))
    in
    let same : answer_of mid.connection.iss mid.connection.irs ≡ answer_of old.connection.iss old.connection.irs = sym (answer_at mid.connection at2) ∙ ap answer_in s.stays ∙ answer_at old.connection at in
    record { once = s.syn_ack at; twice = t.syn_ack at2 ∙ same; ends = t.patience ∙ s.patience }

-- ---- numbers

pub at_end : (o : Option Segment) (next : ℕ) → next ≡ 0 → IfSome o (λ s. len_of s ≡ 0 → s.number ≡ next) → IfSome o (λ s. len_of s ≡ 0 → s.number ≡ 0)
at_end None next is at = tt
at_end (Some s) next is at = λ none. at none ∙ is

pub at_or_before : (o : Option Segment) (next : ℕ) → next ≡ 0 → IfSome o (λ s. len_of s ≡ 0 → (s.number ≡ next) ⊎ (s.number ≡ (next + 4294967295) % 4294967296))
    → IfSome o (λ s. len_of s ≡ 0 → (s.number ≡ 0) ⊎ (s.number ≡ 4294967295))
at_or_before None next is at = tt
at_or_before (Some s) next is at = λ none. elim (at none) [ inl now ↦ inl (now ∙ is) | inr before ↦ inr (omega (arith, before, is)) ]
