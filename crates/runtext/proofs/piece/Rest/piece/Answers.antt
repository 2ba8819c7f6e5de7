use Rattle.std.proofs.Common.{refl, ap, ◌∙◌, arith}
use mathlib.Core.Path.{subst⁻¹}
use Rattle.runtext.specs.Left.{pieces_of, pieces_left, size_of, BeginsAt, FirstPiece}
use Rattle.runtext.proofs.Cutting.{cut_at, after_first}
use Rattle.runtext.proofs.piece.Rest.piece.Goals as goal

pub returns-in_err-piece : goal.returns-in_err-piece
unfolding pieces_left
returns-in_err-piece c = subst⁻¹ (FirstPiece c.args.self) c.from_residual.ensures (ap pieces_of c.in_err-piece.was)

pub returns : goal.returns
unfolding pieces_left
returns c =
    let piece = c.in_ok-piece.piece in
    let place = cut_at 32 piece.part.bytes.now _ c.place_of.ensures in
    let (cut, shorter, onward) = after_first piece _ _ _ _ place c.unwrap_or-end.ensures (omega arith) c.skip.ensures in
    record {
      cut = ap pieces_of c.in_ok-piece.was ∙ cut;
      shorter = omega (arith, shorter, ap size_of c.in_ok-piece.was);
      begins = subst⁻¹ (BeginsAt piece.part.at) c.in_ok-piece.was refl;
      onward = onward;
    }
