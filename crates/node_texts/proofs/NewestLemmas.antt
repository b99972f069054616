-- The fields of one line more.
use Rattle.std.proofs.Common.{◌≡◌, ℕ, List, [], ◌∷◌, map, refl, ap, sym, ◌∙◌, Option, Some, None}
use Rattle.node_texts.specs.declared.info_fields.Fields.{Fields}
use Rattle.node_texts.specs.Infos.{newest, newest_fields, fields_of}
use Rattle.ballot_law.specs.Cuts.{lines}
use Rattle.node_texts.specs.Lines.{without_return}

newest_twice : {X : Type 0} (a b c : Option X) → newest (newest a b) c ≡ newest a (newest b c)
newest_twice a b None = refl
newest_twice a b (Some x) = refl

newest_line : (older : Fields) (line : List ℕ) (ls : List (List ℕ)) →
    newest_fields (newest_fields older (fields_of (line ∷ []))) (fields_of ls) ≡ newest_fields older (fields_of (line ∷ ls))
newest_line older line ls =
    let one = fields_of (line ∷ []) in
    let more = fields_of ls in
    λ t. record {
      own = record {
        id = newest_twice older.own.id one.own.id more.own.id t;
        role = newest_twice older.own.role one.own.role more.own.role t;
      };
      link = record {
        host = newest_twice older.link.host one.link.host more.link.host t;
        port = newest_twice older.link.port one.link.port more.link.port t;
        up = newest_twice older.link.up one.link.up more.link.up t;
        down_s = newest_twice older.link.down_s one.link.down_s more.link.down_s t;
      };
      replica = record {
        priority = newest_twice older.replica.priority one.replica.priority more.replica.priority t;
        offset = newest_twice older.replica.offset one.replica.offset more.replica.offset t;
      };
    }

-- after the first line of the rest was read
pub fields_more : (older newer all : Fields) (bs line bare rest : List ℕ)
    → lines bs ≡ line ∷ lines rest → bare ≡ without_return line → newer ≡ newest_fields older (fields_of (bare ∷ []))
    → newest_fields older (fields_of (map without_return (lines bs))) ≡ all
    → newest_fields newer (fields_of (map without_return (lines rest))) ≡ all
fields_more older newer all bs line bare rest split dropped read so_far =
    ap (λ f. newest_fields f (fields_of (map without_return (lines rest)))) read
    ∙ newest_line older bare (map without_return (lines rest))
    ∙ ap (λ l. newest_fields older (fields_of (l ∷ map without_return (lines rest)))) dropped
    ∙ ap (λ ls. newest_fields older (fields_of (map without_return ls))) (sym split)
    ∙ so_far
