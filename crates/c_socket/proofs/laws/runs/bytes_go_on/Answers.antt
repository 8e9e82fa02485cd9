use Rattle.std.proofs.Common.{◌≡◌, sym, ◌∙◌, ap, subst, length, w64, rules}
use Rattle.std.proofs.lemmas.Int.{to_z-of_z}
use Rattle.std.specs.Prelude.{pos}
use Rattle.app_connection.specs.Endpoints.{OutFits}
use Rattle.app_socket.specs.declared.socket.Socket.{Socket}
use Rattle.tcp_stream.specs.declared.sending.Sending.{Sending}
use Rattle.c_socket.proofs.Extending.{goes_then, learns_on, reads_on, reads_same, writes_on}
use Rattle.c_socket.proofs.laws.runs.bytes_go_on.Goals as goal

pub returns : goal.returns
returns c = λ h b n m wrote got fits.
    let f = c.args.here.now in
    let one = c.write-written.new.connection in
    let two = c.read-count.new.connection in
    let three = c.learn_mss.new.connection in
    let outgoing = c.write-written.new.outgoing in
    let incoming = c.args.incoming.now in
    let took : c.write-written.result ≡ pos n = sym (to_z-of_z w64 c.write-written.result (search rules)) ∙ wrote in
    let gave : c.read-count.result ≡ pos m = sym (to_z-of_z w64 c.read-count.result (search rules)) ∙ got in
    let same = reads_same one two incoming c.args.into.now c.read-count.new.out m c.read-count.result gave c.read-count.ensures in
    let last = ap (λ (s : Socket). s.connection.sending) c.learn_mss.ensures.learns.same in
    let mid = subst (λ (s : Sending). OutFits s (length outgoing)) (last ∙ same) fits in
    goes_then _ b _ _ (writes_on f one c.args.outgoing.now outgoing incoming c.args.bytes.now h b n c.write-written.result took mid c.write-written.ensures)
    (goes_then _ b _ _ (reads_on one two outgoing incoming c.args.into.now c.read-count.new.out _ b m c.read-count.result gave c.read-count.ensures) (learns_on two three outgoing incoming _ b c.args.error.0 c.args.error.1 c.learn_mss.ensures.learns))
