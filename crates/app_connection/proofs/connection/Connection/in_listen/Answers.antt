use Rattle.std.proofs.Common.{sym, ◌∙◌, ap, subst, ℕ, [], ◌∷◌, ◌++◌, map, false}
use Rattle.std.specs.Prelude.{Some}
use Rattle.tcp_stream.specs.Endpoint.{Byte, Syn}
use Rattle.tcp_stream.specs.Network.{Segment_comes, end_of, happens}
use Rattle.tcp_stream.specs.Items.{syn_of}
use Rattle.tcp_stream.specs.Waits.{Waits}
use Rattle.tcp_stream.specs.declared.sending.Sending.{Sending}
use Rattle.app_connection.specs.Sequence.{after}
use Rattle.app_connection.specs.Steps.{first}
use Rattle.app_connection.specs.Worlds.{IsOut, replied}
use Rattle.app_connection.specs.declared.segment.Reply.{Reply}
use Rattle.app_connection.proofs.Going.{goes_with, says_syn_ack, taken_stand, syn_comes}
use Rattle.app_connection.proofs.connection.Connection.in_listen.Goals as goal

pub returns-clause-hears : goal.returns-clause-hears
returns-clause-hears c = λ opened buffer. record {
  state = opened;
  sent = ap (λ (r : Reply). Some (replied r)) c.syn_ack.ensures ∙ ap (λ (n : ℕ). Some (record { number = n; items = Syn ∷ []; ack = Some (after c.take_syn.new.self.irs); rst = false })) (c.take_syn.ensures.iss ∙ c.begin.ensures.iss)
      ∙ ap (λ (n : ℕ). Some (record { number = c.args.fresh; items = Syn ∷ []; ack = Some (after n); rst = false })) c.take_syn.ensures.irs;
  syn = c.if-not-segment.false;
  rst = c.if-segment.false;
  goes = λ back which fresh comes.
      let s = c.args.segment.now in
      let d = c.take_syn.new.self in
      let there = first c.args.fresh in
      let reply = replied c.syn_ack.result in
      let text = syn_comes back which s.number s.syn s.payload.now s.fin c.if-not-segment.false comes in
      let stands = c.take_syn.ensures.opens back which (map Byte s.payload.now ++ end_of s.fin) [] buffer fresh.shut text (c.begin.ensures.begins back buffer fresh) in
      goes_with there back [] d c.args.outgoing.now buffer (Some reply)
      (record {
        acks = [];
        texts = Segment_comes which 1 ∷ [];
        of_sender = tt;
        of_receiver = tt;
        stand = taken_stand there (happens back (Segment_comes which 1)) [] d c.args.outgoing.now buffer (subst (λ (x : Sending). Waits there x c.args.outgoing.now) (sym c.take_syn.ensures.sending) c.begin.ensures.waits) stands
            c.take_syn.ensures.phase (subst (λ (n : ℕ). IsOut there n (Syn ∷ [])) (sym (c.take_syn.ensures.iss ∙ c.begin.ensures.iss)) c.begin.ensures.sent) (c.take_syn.ensures.next c.begin.ensures.shut);
      })
      (λ v w at. says_syn_ack v w reply [] d c.args.outgoing.now buffer c.take_syn.ensures.phase (ap (λ (r : Reply). r.number) c.syn_ack.ensures) (ap (λ (r : Reply). syn_of r.syn) c.syn_ack.ensures)
      (ap (λ (r : Reply). r.ack) c.syn_ack.ensures) at);
}
