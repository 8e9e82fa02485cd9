use Rattle.std.proofs.Common.{ap, subst, ◌≡◌, ◌∙◌, inl, inr, refl, sym, ℕ, ◌≤◌, List, arith}
use Rattle.std.proofs.lemmas.Bool.{false≢true}
use Rattle.std.specs.Prelude.{Some, Option, option_map, None, if◌then◌else◌, min}
use Rattle.app_connection.specs.Worlds.{Goes, said}
use Rattle.app_connection.specs.declared.segment.Segment.{Segment}
use Rattle.app_socket.specs.declared.socket.Socket.{Socket}
use Rattle.app_socket.proofs.Opened.{patience_on}
use Rattle.app_socket.proofs.Stepping.{goes_result, goes_to}
use Rattle.app_socket.proofs.Telling.{all_told}
use Rattle.app_socket.proofs.socket.Socket.tick_open.Goals as goal
use Rattle.tcp_stream.specs.declared.receiving.Receiving.{Receiving}
use Rattle.app_connection.specs.declared.connection.Connection.{Connection}
use Rattle.app_connection.specs.declared.segment.Reply.{Reply}
use Rattle.app_connection.specs.Endpoints.{len_of, next_of}
use Rattle.app_socket.specs.declared.timers.Timers.{Timers}
use Rattle.app_socket.specs.Resends.{IsArmed, Resends, is_due, is_room_news}
use Rattle.app_socket.specs.Times.{later}

pub returns-in-Some-clause-goes : goal.returns-in-Some-clause-goes
returns-in-Some-clause-goes c = λ there back consumed buffer stand.
    let mid = c.next_text.new.self.connection in
    let s = c.in-Some.segment in
    let goes = subst (λ (o : Option Segment). Goes there back consumed mid c.args.outgoing.now buffer (option_map said o)) c.in-Some.is (c.next_text.ensures.goes there back consumed buffer stand) in
    goes_to there back consumed mid c.advertise.new.self.connection c.args.outgoing.now buffer _ (ap (λ (x : Socket). x.connection) c.advertise.ensures.same)
    (goes_result there back consumed mid c.args.outgoing.now buffer (Some (said s)) (Some (said c.advertise.result)) (λ v w stands out. c.advertise.ensures.goes_out v w consumed buffer stands out) goes)

pub returns-then-is_reached-clause-goes : goal.returns-then-is_reached-clause-goes
returns-then-is_reached-clause-goes c = λ there back consumed buffer stand.
    let mid = c.next_text.new.self.connection in
    let it = c.acknowledge in
    goes_to there back consumed mid it.new.self.connection c.args.outgoing.now buffer _ (ap (λ (x : Socket). x.connection) it.ensures.same)
    (goes_result there back consumed mid c.args.outgoing.now buffer (option_map said c.next_text.result) (Some (said it.result)) (λ v w stands out. it.ensures.goes_out v w consumed buffer stands) (c.next_text.ensures.goes there back consumed buffer stand))

pub returns-then-is_probe_due-clause-goes : goal.returns-then-is_probe_due-clause-goes
returns-then-is_probe_due-clause-goes c = λ there back consumed buffer stand.
    let mid = c.next_text.new.self.connection in
    let it = c.acknowledge-then-is_probe_due in
    goes_to there back consumed mid it.new.self.connection c.args.outgoing.now buffer _ (ap (λ (x : Socket). x.connection) it.ensures.same)
    (goes_result there back consumed mid c.args.outgoing.now buffer (option_map said c.next_text.result) (Some (said it.result)) (λ v w stands out. it.ensures.goes_out v w consumed buffer stands) (c.next_text.ensures.goes there back consumed buffer stand))

-- what is acknowledged changes nothing of what goes again
resends_on : (old mid new : Socket) (t : Timers) (outgoing : List ℕ) (now : ℕ) (given : Option Segment) → new ≡ record mid { timers = t; edge = new.edge } → t.resend_at ≡ mid.timers.resend_at → t.ends_at ≡ mid.timers.ends_at
    → Resends old mid outgoing now given → Resends old new outgoing now given
resends_on old mid new t outgoing now given is same ends r =
    let like : Resends old (record mid { timers = t; edge = new.edge }) outgoing now given = record {
      expires = r.expires;
      backs_off = r.backs_off;
      slows = r.slows;
      saves = r.saves;
      free = r.free;
      probed = r.probed;
      still = r.still;
      calm = r.calm;
      idle = r.idle;
      again = r.again;
      hole = r.hole;
      armed = λ some. subst (λ (a : Option ℕ). IsArmed old.timers.resend_at a now) (sym same) (r.armed some);
      held = r.held;
      sound = r.sound;
      stays = r.stays;
      patience = λ some. patience_on old.timers.resend_at _ _ _ ends (r.patience some);
      lasts = subst (λ (n : ℕ). min old.timers.ends_at (later now 300000) ≤ n) (sym ends) r.lasts;
      agreed = r.agreed;
      quiet = r.quiet;
      only = r.only;
    } in
    subst (λ (x : Socket). Resends old x outgoing now given) (sym is) like

-- a segment without items goes
resends_bare : (old new : Socket) (outgoing : List ℕ) (now : ℕ) (s : Segment) → len_of s ≡ 0 → Resends old new outgoing now None → Resends old new outgoing now (Some s)
resends_bare old new outgoing now s bare r = record {
  expires = λ some due probed. absurd (r.expires some due probed);
  backs_off = r.backs_off;
  slows = r.slows;
  saves = r.saves;
  free = r.free;
  probed = r.probed;
  still = r.still;
  calm = r.calm;
  idle = r.idle;
  again = λ some first. absurd (r.again some first);
  hole = λ offset count few sound small due resend calm is text less. absurd (r.hole offset count few sound small due resend calm is text less);
  armed = r.armed;
  held = λ few some sound none. r.held few some sound tt;
  sound = r.sound;
  stays = r.stays;
  patience = r.patience;
  lasts = r.lasts;
  agreed = r.agreed;
  quiet = λ none. r.quiet tt;
  only = r.only;
}

-- the segment has another acknowledgement and window
resends_told : (old new : Socket) (outgoing : List ℕ) (now : ℕ) (s t : Segment) → t ≡ record s { ack = t.ack; window = t.window } → Resends old new outgoing now (Some s) → Resends old new outgoing now (Some t)
resends_told old new outgoing now s t is r =
    let like : Resends old new outgoing now (Some (record s { ack = t.ack; window = t.window })) = record {
      expires = λ some due probed. let g = r.expires some due probed in record { number = g.number; some = g.some; inner = g.inner; waits = g.waits };
      backs_off = r.backs_off;
      slows = r.slows;
      saves = r.saves;
      free = r.free;
      probed = r.probed;
      still = r.still;
      calm = r.calm;
      idle = r.idle;
      again = λ some first. let g = r.again some first in record { number = g.number; some = g.some; inner = g.inner; waits = g.waits };
      hole = r.hole;
      armed = r.armed;
      held = r.held;
      sound = r.sound;
      stays = r.stays;
      patience = r.patience;
      lasts = r.lasts;
      agreed = r.agreed;
      quiet = r.quiet;
      only = r.only;
    } in
    subst (λ (x : Segment). Resends old new outgoing now (Some x)) (sym is) like

-- what a receiving half acknowledges
ack_as : (r t : Receiving) → t ≡ r → (if t.is_open then Some t.next else None) ≡ (if r.is_open then Some r.next else None)
ack_as r t is = ap (λ (x : Receiving). if x.is_open then Some x.next else None) is

pub returns-clause-goes : goal.returns-clause-goes
returns-clause-goes c = c.in_default.ensures.goes

pub returns-in-Some-clause-resends : goal.returns-in-Some-clause-resends
returns-in-Some-clause-resends c = λ opened has.
    let told = resends_told c.args.self.now c.next_text.new.self c.args.outgoing.now c.args.now c.in-Some.segment c.advertise.result c.advertise.ensures.segment (c.in-Some.ensures.resends opened has) in
    resends_on c.args.self.now c.next_text.new.self c.advertise.new.self _ c.args.outgoing.now c.args.now (Some c.advertise.result) c.advertise.ensures.same refl refl told

pub returns-in-Some-clause-acknowledges : goal.returns-in-Some-clause-acknowledges
returns-in-Some-clause-acknowledges c = λ opened. record {
  due = λ due. refl;
  room = λ synced room. refl;
  opens = λ synced news.
      all_told c.args.self.now c.next_text.new.self c.args.incoming c.advertise.result (c.advertise.ensures.ack ∙ ack_as c.args.self.now.connection.receiving c.next_text.new.self.connection.receiving c.next_text.ensures.receiving)
      c.advertise.ensures.window c.next_text.ensures.edge c.next_text.ensures.receiving (ap (λ (x : Socket). x.options) c.next_text.ensures.same) synced news;
  ack = c.advertise.ensures.ack ∙ ack_as c.args.self.now.connection.receiving c.next_text.new.self.connection.receiving c.next_text.ensures.receiving;
  number = λ none. absurd (omega (arith, none, ap len_of c.advertise.ensures.segment, c.in-Some.ensures.items opened));
  at = λ due none. absurd (omega (arith, none, ap len_of c.advertise.ensures.segment, c.in-Some.ensures.items opened));
  rst = ap (λ (s : Segment). s.rst) c.advertise.ensures.segment ∙ c.in-Some.ensures.rst;
}

pub returns-then-is_reached-clause-acknowledges : goal.returns-then-is_reached-clause-acknowledges
returns-then-is_reached-clause-acknowledges c = λ opened.
    let old = c.args.self.now in
    let mid = c.next_text.new.self in
    let it = c.acknowledge in
    let acks = it.ensures.ack ∙ ack_as old.connection.receiving mid.connection.receiving c.next_text.ensures.receiving in
    let next = ap (λ (r : Reply). r.number) c.acknowledgement-number.ensures.value ∙ ap next_of (c.in_default.ensures.none refl) in
    record {
      due = λ due. refl;
      room = λ synced room. refl;
      opens = λ synced news. all_told old mid c.args.incoming it.result acks it.ensures.window c.next_text.ensures.edge c.next_text.ensures.receiving (ap (λ (x : Socket). x.options) c.next_text.ensures.same) synced news;
      ack = acks;
      number = λ none. inl (it.ensures.number ∙ next);
      at = λ due none. it.ensures.number ∙ next;
      rst = it.ensures.rst;
    }

pub returns-then-is_reached-clause-resends : goal.returns-then-is_reached-clause-resends
returns-then-is_reached-clause-resends c = λ opened has.
    let bare = resends_bare c.args.self.now c.next_text.new.self c.args.outgoing.now c.args.now c.acknowledge.result c.acknowledge.ensures.len (c.in_default.ensures.resends opened has) in
    resends_on c.args.self.now c.next_text.new.self c.acknowledge.new.self _ c.args.outgoing.now c.args.now (Some c.acknowledge.result) c.acknowledge.ensures.same refl refl bare

pub returns-then-is_probe_due-clause-acknowledges : goal.returns-then-is_probe_due-clause-acknowledges
returns-then-is_probe_due-clause-acknowledges c = λ opened.
    let old = c.args.self.now in
    let mid = c.next_text.new.self in
    let it = c.acknowledge-then-is_probe_due in
    let acks = it.ensures.ack ∙ ack_as old.connection.receiving mid.connection.receiving c.next_text.ensures.receiving in
    let next = ap (λ (r : Reply). r.number) c.acknowledgement-number.ensures.value ∙ ap next_of (c.in_default.ensures.none refl) in
    record {
      due = λ due. refl;
      room = λ synced room. refl;
      opens = λ synced news. all_told old mid c.args.incoming it.result acks it.ensures.window c.next_text.ensures.edge c.next_text.ensures.receiving (ap (λ (x : Socket). x.options) c.next_text.ensures.same) synced news;
      ack = acks;
      number = λ none. inr (omega (arith, it.ensures.number, next));
      at = λ due none. absurd (false≢true (sym c.if-is_reached.false ∙ c.is_reached.ensures.value ∙ ap (λ (o : Option ℕ). is_due o c.args.now) c.next_text.ensures.ack_at ∙ due));
      rst = it.ensures.rst;
    }

pub returns-then-is_probe_due-clause-resends : goal.returns-then-is_probe_due-clause-resends
returns-then-is_probe_due-clause-resends c = λ opened has.
    let s = c.acknowledge-then-is_probe_due.result in
    let bare = resends_bare c.args.self.now c.next_text.new.self c.args.outgoing.now c.args.now s c.acknowledge-then-is_probe_due.ensures.len (c.in_default.ensures.resends opened has) in
    resends_on c.args.self.now c.next_text.new.self c.acknowledge-then-is_probe_due.new.self _ c.args.outgoing.now c.args.now (Some s) c.acknowledge-then-is_probe_due.ensures.same (ap (λ (t : Timers). t.resend_at) c.probe.ensures) (ap (λ (t : Timers). t.ends_at) c.probe.ensures) bare

pub returns-clause-acknowledges : goal.returns-clause-acknowledges
returns-clause-acknowledges c = λ opened.
    let old = c.args.self.now in
    let mid = c.next_text.new.self in
    record {
      due = λ due. sym c.if-is_reached.false ∙ c.is_reached.ensures.value ∙ ap (λ (at : Option ℕ). is_due at c.args.now) c.next_text.ensures.ack_at ∙ due;
      room = λ synced news.
          sym c.if-is_update_due.false
          ∙ c.is_update_due.ensures (ap (λ (r : Receiving). r.is_open) c.next_text.ensures.receiving ∙ synced)
          ∙ ap (λ (x : Socket). is_room_news x c.args.incoming) c.next_text.ensures.same
          ∙ ap (λ (x : Connection). is_room_news (record old { connection = x }) c.args.incoming) (c.in_default.ensures.none refl)
          ∙ news;
      opens = λ synced news. tt;
      ack = tt;
      number = tt;
      at = λ due. tt;
      rst = tt;
    }
