-- Reading a hello: its fields around the commas, and what they say.
use Rattle.std.specs.Prelude.{ℕ, List, [], ◌∷◌, Option, Result, Ok, Err}
use Rattle.ballot_law.specs.declared.cards.TheConstants.{MAX_EPOCH}
use Rattle.ballot_law.specs.declared.replies.Hello.{Hello}
use Rattle.ballot_law.specs.Results.{◌>>=◌, wanted}
use Rattle.ballot_law.specs.Words.{some_if, is_decimal, number_within, canonical_port, name, cut_at, ip, run_id}
use Rattle.node_texts.specs.declared.faults.TextFault.{TextFault}
use Rattle.node_texts.specs.declared.faults.TextFault.TheVariants.{FieldCount, BadField, EpochTooLarge}
use Rattle.node_texts.specs.declared.hello_fields.Sender.{Sender}
use Rattle.node_texts.specs.declared.hello_fields.OfMaster.{OfMaster}
use Rattle.node_texts.specs.Faults.{of_text}

-- an epoch; inside it none where the number is above the greatest epoch
abbrev pub epoch : List ℕ → Option (Option ℕ)
epoch bytes = some_if (is_decimal bytes) (number_within 0 MAX_EPOCH bytes)

-- fields 1 to 4
abbrev pub sender_of : List ℕ → List ℕ → List ℕ → List ℕ → Result Sender TextFault
sender_of ip_word port_word id_word epoch_word =
    wanted (BadField 1) (ip ip_word) >>= λ i.
    wanted (BadField 2) (canonical_port port_word) >>= λ p.
    wanted (BadField 3) (run_id id_word) >>= λ id.
    wanted (BadField 4) (epoch epoch_word) >>= λ current.
    Ok (record { addr = record { ip = i; port = p }; id = id; current = current })

-- fields 5 to 8
abbrev pub master_of : List ℕ → List ℕ → List ℕ → List ℕ → Result OfMaster TextFault
master_of name_word ip_word port_word epoch_word =
    wanted (BadField 5) (name name_word) >>= λ master.
    wanted (BadField 6) (ip ip_word) >>= λ i.
    wanted (BadField 7) (canonical_port port_word) >>= λ p.
    wanted (BadField 8) (epoch epoch_word) >>= λ epoch.
    Ok (record { name = master; addr = record { ip = i; port = p }; epoch = epoch })

abbrev pub hello_from : Sender → OfMaster → Result Hello TextFault
hello_from sender of_master =
    wanted EpochTooLarge sender.current >>= λ current.
    wanted EpochTooLarge of_master.epoch >>= λ epoch.
    Ok (record {
      addr = sender.addr;
      id = sender.id;
      current = current;
      master = of_master.name;
      card = record { epoch = epoch; addr = of_master.addr };
    })

-- a bad field is told before an epoch that is too large, and the smallest bad field first
abbrev pub hello_of_parts : List (List ℕ) → Result Hello TextFault
hello_of_parts (a ∷ b ∷ c ∷ d ∷ e ∷ f ∷ g ∷ h ∷ []) =
    sender_of a b c d >>= λ sender. master_of e f g h >>= λ of_master. hello_from sender of_master
hello_of_parts _ = Err FieldCount

-- what a text says, or its first fault
abbrev pub hello_of : List ℕ → Result Hello TextFault
hello_of bytes = of_text bytes (hello_of_parts (cut_at 44 bytes))
