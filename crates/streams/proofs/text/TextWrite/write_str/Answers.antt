use Rattle.std.proofs.Common.{rules, ap, ◌++◌, ◌∙◌, take}
use Rattle.streams.proofs.Laws.Known.{copied-behind}
use Rattle.streams.proofs.text.TextWrite.write_str.Goals as goal

pub returns : goal.returns
returns c =
    let s = c.args.self.now in
    let added = c.as_bytes-added.result.now in
    record {
      ok = λ _. copied-behind s.used s.bytes added c.copy_from_slice.new.self (search rules) c.copy_from_slice.ensures.after
          ∙ ap (λ l. take s.used s.bytes ++ l) c.as_bytes-added.ensures.value;
    }
