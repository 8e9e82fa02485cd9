use Rattle.std.proofs.Common.{◌≡◌, inr, refl, sym, subst, ℕ, ℤ, length, w32, rules}
use Rattle.std.proofs.lemmas.Int.{to_z-of_z}
use Rattle.c_socket.specs.Calls.{Fits, Steps, Stores}
use Rattle.c_socket.proofs.Meeting.{met}
use Rattle.c_socket.proofs.calls.meet.Goals as goal

pub returns : goal.returns
returns c =
    let a = c.args in
    let e = c.step-segment.ensures in
    let old = c.value-socket.result in
    let new = c.step-segment.new.self in
    let given = c.step-segment.result in
    let fits : Fits old (length a.outgoing.now) (length a.incoming.now) = record { out = c.if-not-fits.ensures.out refl; rings = c.if-not-fits.ensures.rings refl } in
    let steps : Steps old new a.outgoing.now a.incoming.now c.step-segment.new.incoming a.now a.event given =
    record {
      out = e.out;
      rings = e.rings;
      steps = e.steps;
      ends = e.ends;
      idle = e.idle;
      no_later = e.later;
      tells = e.tells;
      keeps = e.keeps;
      text = e.text;
      short = e.short;
      sends = e.sends;
      answers = e.answers;
      stale = e.stale;
      answered = e.answered;
      within = e.within;
      acks = e.acks;
      owes = e.owes;
      replies = e.replies;
      to_bare = e.to_bare;
      held = e.held;
      quiet = e.quiet;
      recent = e.recent;
      timestamp = e.timestamp;
      patience = e.patience;
      connects = e.connects;
      begins = e.begins;
      stays = e.stays;
      gets = e.gets;
      learns = e.learns;
      resends = e.resends;
      acknowledges = e.acknowledges;
      again = e.again;
      rests = e.rests;
    }
    in
    let size : length c.step-segment.new.incoming ≡ length a.incoming.now = c.step-segment.auto.incoming in
    let stores : Stores new (length a.incoming.now) a.now given a.out.now c.store.new.out c.store.result =
    subst (λ (n : ℕ). Stores new n a.now given a.out.now c.store.new.out c.store.result) size c.store.ensures
    in
    inr (met a.event old new a.connection.now c.fields.result a.outgoing.now a.incoming.now c.step-segment.new.incoming a.now given a.out.now c.store.new.out _
    c.value-socket.ensures c.fields.ensures fits steps
    (subst (λ (z : ℤ). Stores new (length a.incoming.now) a.now given a.out.now c.store.new.out z) (sym (to_z-of_z w32 c.store.result (search rules))) stores))
