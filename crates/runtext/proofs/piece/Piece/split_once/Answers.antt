use Rattle.std.proofs.Common.{◌≡◌, ◌+◌, ◌∷◌, length, take, sym, refl, ap, ◌∙◌, arith, length-drop}
use mathlib.Core.Path.{subst⁻¹}
use Rattle.std.proofs.lemmas.List.{length-take-le}
use Rattle.runtext.specs.Left.{Cut}
use Rattle.runtext_model.specs.Pieces.{pieces}
use Rattle.runtext.proofs.Cutting.{cut_at}
use Rattle.runtext.proofs.piece.Piece.split_once.Goals as goal

pub returns-in_err-end : goal.returns-in_err-end
returns-in_err-end c =
    subst⁻¹ (Cut c.args.cut c.args.self) c.from_residual.ensures (cut_at c.args.cut c.args.self.part.bytes.now _ c.in_err-end.ensures)

-- a byte that is found stands within the piece
pub returns-in_err-after : goal.returns-in_err-after
returns-in_err-after c =
    let (inside, cut) = cut_at c.args.cut c.args.self.part.bytes.now _ c.in_ok-end.ensures in
    absurd (omega (arith, inside))

pub returns : goal.returns
returns c =
    let bytes = c.args.self.part.bytes.now in
    let end = c.in_ok-end.end in
    let (inside, cut) = cut_at c.args.cut bytes _ c.in_ok-end.ensures in
    let (within, rest, at) = c.in_ok-after.ensures in
    let long : length (take end bytes) ≡ end = length-take-le end bytes (omega (arith, inside)) in
    record {
      cut = cut ∙ ap (λ ys. take end bytes ∷ pieces c.args.cut ys) (sym rest);
      lengths = omega (arith, long, ap length rest, length-drop (end + 1) bytes);
      begins = refl;
      onward = omega (arith, long, at);
    }
