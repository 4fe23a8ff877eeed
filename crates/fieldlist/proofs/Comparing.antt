-- What a comparison with the front of the buffer tells.
use Rattle.std.proofs.Common.{◌≡◌, ℕ, ◌-◌, ◌≤◌, Bool, List, length, take, Ok, Decides, Result, sym, ap, ◌∙◌, arith}
use Rattle.std.proofs.lemmas.List.{length-take}
use Rattle.sheet.specs.declared.fault.Fault.{Fault}
use Rattle.sheet.specs.Encoding.{Written}
use Rattle.fieldlist.specs.WritingBack.{Alike}

-- `size` bytes were written, and the first `size` bytes compared
pub tells : (w : Written Fault) (bytes after : List ℕ) (size : ℕ) (r : Bool) → Ok size ≡ w.answer → after ≡ w.buffer → size ≤ length w.buffer → Decides r (take (size - 0) after ≡ bytes) → Decides r (Alike w bytes)
tells w bytes after size r answer held fits test =
    let z : size - 0 ≡ size = omega arith in
    let far : length after ≡ length w.buffer = ap length held in
    let long : length (take (size - 0) after) ≡ size = simp length-take (omega arith) in (
      λ yes_it_is.
          let same : take (size - 0) after ≡ bytes = test.0 yes_it_is in
          let n : size ≡ length bytes = sym long ∙ ap length same in
          (sym answer ∙ ap Ok n, (λ i. take (sym n i) (sym held i)) ∙ ap (λ m. take m after) (sym z) ∙ same),
      λ alike.
          let ok : ◌≡◌ {A = Result ℕ Fault} (Ok size) (Ok (length bytes)) = answer ∙ alike.0 in
          let n : size ≡ length bytes = cc in
          test.1 ((λ i. take ((z ∙ n) i) (held i)) ∙ alike.1),
    )
