use Rattle.process_laws.proofs.link_laws.law_targets_are_free.Goals as goal

pub returns : goal.returns
returns c = λ roster i parts message to h. record { sender = h.sender; cards = h.cards; votes = h.votes; hellos = h.hellos; no_hello_text = h.no_hello_text }
