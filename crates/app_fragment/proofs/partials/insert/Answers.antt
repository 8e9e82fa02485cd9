use Rattle.std.proofs.Common.{◌∷◌, inl, inr, refl, rules, subst, take}
use Rattle.app_fragment.specs.Datagram.{IsWhole}
use Rattle.app_fragment.proofs.Slots.{rest-kept}
use Rattle.app_fragment.proofs.partials.insert.Goals as goal

pub returns-in-Incomplete : goal.returns-in-Incomplete
returns-in-Incomplete c = record {
  added = record {
    kept = record { key = c.in-Incomplete.ensures.key; expires = refl; link = refl };
    alive = c.requires.sound;
    sound = c.requires.sound;
    collected = c.in-Incomplete.ensures.collected (inl refl);
    unwritten = refl;
  };
  missing = c.in-Incomplete.ensures.missing refl;
}

pub returns-in-Some : goal.returns-in-Some
returns-in-Some c = record {
  alive = c.requires.sound;
  whole = λ ps h. subst (λ k. IsWhole k (c.args.packet.now ∷ ps) c.in-Some.len c.write.new.out) c.in-Complete.ensures.key
      (c.in-Some.ensures.whole (c.args.packet.now ∷ ps) (c.in-Complete.ensures.collected (inr refl) ps h));
  least = c.in-Some.ensures.least;
  room = c.in-Some.ensures.room;
  rest = rest-kept _ c.args.out.now c.write.new.out c.in-Some.len c.in-Some.ensures.bytes (search rules) c.in-Some.ensures.room;
  ended = refl;
}

pub returns-in-None : goal.returns-in-None
returns-in-None c = record {
  added = record {
    kept = record { key = c.in-Complete.ensures.key; expires = refl; link = refl };
    alive = c.requires.sound;
    sound = c.requires.sound;
    collected = c.in-Complete.ensures.collected (inr refl);
    unwritten = c.in-None.ensures.unchanged refl;
  };
  made = λ ps h.
      let payload = take c.insert.new.self.ends.len c.insert.new.buffer in
      let make = c.in-Complete.ensures.complete refl ps h in
      (payload, make, c.in-None.ensures.missing refl (c.args.packet.now ∷ ps) (c.in-Complete.ensures.collected (inr refl) ps h) payload make);
}

pub returns-in-Rejected : goal.returns-in-Rejected
returns-in-Rejected c = record {
  kept = record { key = c.in-Rejected.ensures.key; expires = refl; link = refl };
  dropped = λ e. cc;
  why = inr (λ ps h. absurd (c.in-Rejected.ensures.rejected refl h.within c.requires.fragment.of c.requires.fragment.shaped c.requires.fits));
  unwritten = refl;
}

pub returns-in-Conflict : goal.returns-in-Conflict
returns-in-Conflict c = record {
  kept = record { key = c.in-Conflict.ensures.key; expires = refl; link = refl };
  dropped = λ e. cc;
  why = inr (c.in-Conflict.ensures.conflict refl);
  unwritten = refl;
}
