use Rattle.app_socket.proofs.laws.losses.a_loss_probe_leaves_cwnd.Goals as goal

pub returns : goal.returns
returns c = (c.step.ensures.resends tt c.requires.opened c.requires.patient).free c.requires.waits c.requires.due c.requires.probing
