use Rattle.std.proofs.Common.{◌≡◌, ◌⊎◌, inl, inr, refl, sym, ◌∙◌, subst, ℕ, List, [], ◌∷◌, Bool, true, false}
use Rattle.tcp_stream.specs.Network.{World, Segment_comes, happens}
use Rattle.tcp_stream.specs.Stands.{Stands}
use Rattle.tcp_stream.specs.declared.receiving.Receiving.{Receiving}
use Rattle.app_connection.specs.Worlds.{StandsLater}
use Rattle.app_connection.proofs.connection.Connection.take_syn.Goals as goal

either : (b : Bool) → (b ≡ true) ⊎ (b ≡ false)
either true = inl refl
either false = inr refl

-- the first SYN is taken, another one changes nothing
syn_stands : (back : World) (which : ℕ) (consumed buffer : List ℕ) (old new : Receiving) → (old.is_open ≡ true → new ≡ old)
    → (old.is_open ≡ false → Stands (happens back (Segment_comes which 1)) consumed new buffer) → Stands back consumed old buffer → StandsLater back consumed new buffer
syn_stands back which consumed buffer old new again opens stands = elim (either old.is_open) [
  | inl is_open ↦ record { events = []; own = tt; stands = subst (λ (r : Receiving). Stands back consumed r buffer) (sym (again is_open)) stands }
  | inr shut ↦ record { events = Segment_comes which 1 ∷ []; own = tt; stands = opens shut }
]

pub returns-clause-stands : goal.returns-clause-stands
returns-clause-stands c = λ back which rest consumed buffer comes stands.
    syn_stands back which consumed buffer c.args.self.now.receiving c.on_syn.new.self c.on_syn.ensures.again (λ shut. c.on_syn.ensures.opens back consumed buffer which rest shut comes stands) stands

pub returns-clause-opens : goal.returns-clause-opens
returns-clause-opens c = λ back which rest consumed buffer shut comes stands.
    c.on_syn.ensures.opens back consumed buffer which rest (sym stands.holds.is_open ∙ shut) comes stands
