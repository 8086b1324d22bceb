use Rattle.std.proofs.Common.{ap, Some, ◌∙◌, subst}
use Rattle.std.proofs.Math.Path.{fun_ext}
use Rattle.std.proofs.lemmas.Map.Text.{hash_map_updates_text}
use Rattle.std.specs.HashMap.{UpdatesBy, get_by_text}
use Rattle.std.specs.String.{string_eq, string_bytes}
use Rattle.std.specs.Option.{option_map}
use Rattle.std.specs.Str.{bytes_eq}
use Rattle.leg_shelf.proofs.Kept.{mapped}
use Rattle.leg_shelf.specs.Memory.{mem_of}
use Rattle.leg_shelf.proofs.memory.MemShelf.put.Goals as goal

pub returns-clause-ok : goal.returns-clause-ok
returns-clause-ok c = ap (λ f. record (mem_of c.args.self.now) { files = f }) (fun_ext (λ m.
    let e = hash_map_updates_text c.args.name.now c.args.self.now.files c.insert.new.self (Some c.args.bytes)
    (subst (λ bs. UpdatesBy string_eq (λ k. bytes_eq bs (string_bytes k)) c.args.self.now.files c.insert.new.self (Some c.args.bytes)) c.in_ok-key.ensures.ok c.in_ok-insert.ensures.updates) m in
    ap (option_map (λ v. v.items)) e
    ∙ mapped (λ v. v.items) (bytes_eq c.args.name.now m) (Some c.args.bytes) (get_by_text c.args.self.now.files m)))
