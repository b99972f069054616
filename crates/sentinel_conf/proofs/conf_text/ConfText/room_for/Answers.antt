use Rattle.sentinel_conf.proofs.conf_text.ConfText.room_for.Goals as goal

pub returns : goal.returns
returns c = c.new.ensures
