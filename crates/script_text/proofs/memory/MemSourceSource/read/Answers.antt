use Rattle.std.proofs.Common.{◌≡◌, ℕ, ◌+◌, ◌-◌, ◌≤◌, List, ◌++◌, length, take, drop, Some, ap, sym, ◌∙◌, arith}
use Rattle.std.proofs.lemmas.List.{take_at, take-append-drop, drop-drop, length-take, length-drop}
use Rattle.script_text.specs.Memory.{MemInput}
use Rattle.script_text.proofs.memory.MemSourceSource.read.Goals as goal

given_is : (bytes copied buf : List ℕ) (at n : ℕ) → at + n ≤ length bytes → copied ≡ take (at + n - at) (drop at bytes)
    → drop at bytes ≡ take n (copied ++ drop n buf) ++ drop (at + n) bytes
given_is bytes copied buf at n fits is =
    let width : at + n - at ≡ n = omega arith in
    let piece : copied ≡ take n (drop at bytes) = is ∙ ap (λ k. take k (drop at bytes)) width in
    let size : length copied ≡ n = ap length piece ∙ omega (arith, length-take n (drop at bytes), length-drop at bytes) in
    sym (ap (λ front. front ++ drop (at + n) bytes) (take_at copied (drop n buf) n size ∙ piece)
    ∙ (ap (λ back. take n (drop at bytes) ++ back) (sym (drop-drop n at bytes)) ∙ take-append-drop n (drop at bytes)))

pub returns-clause-given : goal.returns-clause-given
returns-clause-given c =
    let at = c.self.inside.at in
    let n = c.min-n.result in
    let piece = c.copy_from_slice.ensures.after ∙ ap (λ bytes. take (at + n - at) (drop at bytes)) c.deref-2.ensures.value in
    ap Some (sym (ap (λ (s : MemInput). s.left) c.self.view_is)
    ∙ given_is c.self.inside.bytes.items c.copy_from_slice.new.self c.args.buf.now at n (omega (arith, c.self.invariant)) piece)
