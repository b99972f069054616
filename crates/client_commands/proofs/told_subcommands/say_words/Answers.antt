use Rattle.client_commands.proofs.Bytes.{set_to}
use Rattle.client_commands.proofs.SubBytes.{words_bytes}
use Rattle.client_commands.proofs.told_subcommands.say_words.Goals as goal

pub returns : goal.returns
returns c = set_to c.say_word_bytes.result c.say_word_bytes.new.out _ _ (words_bytes c.args.words.now) c.say_word_bytes.ensures
